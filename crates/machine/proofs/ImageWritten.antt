-- How a cut comes to its image: the cells first, then thread by thread the head and the log's stretch.
use Prim.Native.Nat.{ℕ, ◌+◌, ◌-◌, ◌*◌, ◌≤◌, ◌<◌}
use native.Mathlib.Decide.{dec_lt, ℕ_discrete}
use native.Mathlib.Omega.{arith}
use mathlib.Core.Path.{◌≡◌, sym, ap, ◌∙◌}
use mathlib.Core.Logic.{by_cases}
use mathlib.Core.List.{List, ◌++◌}
use lib.ListN.{length, get_or, set, take, drop, length-set, length-append, length-take, length-drop, get_or-append}
use lib.Seq.{ext_get_or, length-take-le, get_or-append-add, get_or-take, get_or-drop, get_or-set_same, get_or-set_other}
use borrow.Author.Tests.{le-ltb, lt-ltb, eq-eqb}
use Rattle.sizes.specs.Sizes.{thread_count, entry_words}
use Rattle.cache.specs.Cache.{cell_count, persisted_into}
use Rattle.cache.proofs.CacheLaws.{persisted_into-long}
use Rattle.ring.specs.Ring.{slot_count}
use Rattle.reader.specs.Stretch.{image_words, heads_at, stretch_words, stretch_at, stretch_of}
use Rattle.entry.specs.Words.{words_of}
use Rattle.thread_log.specs.declared.Log.{Log}
use Rattle.reader.proofs.StretchLaws.{Reads}
use Rattle.thread_log.proofs.SlotLaws.{length_words}
use Rattle.thread_log.proofs.ImageLaws.{logs-read}
use Rattle.machine.specs.Holds.{no_log, log_of}
use Rattle.machine.specs.Image.{image_of}
use Rattle.writer.specs.Written.{written_of, log_into}
use Rattle.machine.specs.Runs.{Reached}
use Rattle.machine.specs.State.{Machine}
use Rattle.machine.proofs.Stretches.{reached_stretched, all-logs, all_slots}

-- what stands before and from a place of a list whose rest is another list
module _ (list rest : List ℕ) (at : ℕ) (fits : at ≤ length list) where
  before-part : (place : ℕ) → place < at → get_or (take at list ++ rest) place 0 ≡ get_or list place 0
  before-part place below =
      get_or-append (take at list) rest 0 place (rw (length-take-le at list fits) below) ∙ get_or-take at list place 0 below

  in-part : (index : ℕ) → get_or (take at list ++ rest) (at + index) 0 ≡ get_or rest index 0
  in-part index =
      ap (λ (front : ℕ). get_or (take at list ++ rest) (front + index) 0) (sym (length-take-le at list fits)) ∙
      get_or-append-add (take at list) rest index 0

-- the image with the thread's head alone
abbrev headed : Log → ℕ → List ℕ → List ℕ
headed log thread image = set image (heads_at + thread) log.head.0

module _ (log : Log) (thread : ℕ) (image : List ℕ) (in_thread : thread < thread_count) (long : length image ≡ image_words)
    (words : length (words_of log.persisted) ≡ stretch_words) where
  headed-long : length (headed log thread image) ≡ image_words
  headed-long = length-set image (heads_at + thread) log.head.0 ∙ long

  into-is : log_into log thread image ≡ take (stretch_at thread) (headed log thread image) ++
      (words_of log.persisted ++ drop stretch_words (drop (stretch_at thread) (headed log thread image)))
  unfolding log_into written_of
  into-is =
      rw (le-ltb (length (drop (stretch_at thread) (headed log thread image))) stretch_words (simp length-drop (omega (arith, headed-long))))

  pub into-long : length (log_into log thread image) ≡ image_words
  into-long = rw into-is (simp (length-append, length-take, length-drop) (omega (arith, headed-long, words)))

  into-front : (place : ℕ) → place < stretch_at thread → get_or (log_into log thread image) place 0 ≡ get_or (headed log thread image) place 0
  into-front place below = rw into-is (before-part (headed log thread image) _ (stretch_at thread) (omega (arith, headed-long)) place below)

  into-head : get_or (log_into log thread image) (heads_at + thread) 0 ≡ log.head.0
  into-head = into-front (heads_at + thread) (omega arith) ∙ get_or-set_same image (heads_at + thread) log.head.0 0 (omega arith)

  into-other : (place : ℕ) → place < stretch_at thread → (place ≡ heads_at + thread → ⊥)
      → get_or (log_into log thread image) place 0 ≡ get_or image place 0
  into-other place below other = into-front place below ∙ get_or-set_other image (heads_at + thread) place log.head.0 0 other

  into-stretch : (index : ℕ) → index < stretch_words
      → get_or (log_into log thread image) (stretch_at thread + index) 0 ≡ get_or (words_of log.persisted) index 0
  into-stretch index below =
      rw into-is
      (in-part (headed log thread image) _ (stretch_at thread) (omega (arith, headed-long)) index ∙
      get_or-append (words_of log.persisted)
      (drop stretch_words (drop (stretch_at thread) (headed log thread image))) 0 index (omega arith))

-- what an image holds once all cells, and the heads and stretches of the threads below this one, are written
pub record WrittenTo (machine : Machine) (image : List ℕ) (thread : ℕ) : Type 0 where
  pub within : thread ≤ thread_count
  pub cells : length machine.cache.persisted ≡ cell_count
  pub as_long : length image ≡ image_words
  pub front : (place : ℕ) → place < heads_at + thread → get_or image place 0 ≡ get_or (image_of machine) place 0
  pub back : (place : ℕ) → stretch_at 0 ≤ place → place < stretch_at thread → get_or image place 0 ≡ get_or (image_of machine) place 0

module _ (machine : Machine) (reached : Reached machine) (cells : length machine.cache.persisted ≡ cell_count) where
  slots : (thread : ℕ) → thread < thread_count → length (log_of machine thread).persisted ≡ slot_count
  slots = all_slots machine (reached_stretched machine reached)

  words : (thread : ℕ) → thread < thread_count → length (words_of (log_of machine thread).persisted) ≡ stretch_words
  words thread in_thread = length_words (log_of machine thread).persisted ∙ ap (λ count. count * entry_words) (slots thread in_thread)

  pub reads : Reads (image_of machine) machine.cache.persisted (λ thread. (log_of machine thread).head.0)
      (λ thread. words_of (log_of machine thread).persisted)
  unfolding image_of
  reads = logs-read machine.cache.persisted machine.logs no_log cells (all-logs machine (reached_stretched machine reached)) slots

  pub cell_at : (place : ℕ) → place < heads_at → get_or (image_of machine) place 0 ≡ get_or machine.cache.persisted place 0
  cell_at place below =
      sym (get_or-take heads_at (image_of machine) place 0 below) ∙ ap (λ (front : List ℕ). get_or front place 0) reads.cells_are

  pub word_at : (thread : ℕ) → thread < thread_count → (index : ℕ) → index < stretch_words
      → get_or (image_of machine) (stretch_at thread + index) 0 ≡ get_or (words_of (log_of machine thread).persisted) index 0
  unfolding stretch_of
  word_at thread in_thread index below =
      let stretch : take stretch_words (drop (stretch_at thread) (image_of machine)) ≡ words_of (log_of machine thread).persisted =
      rw (lt-ltb thread thread_count in_thread, eq-eqb (length (image_of machine)) image_words reads.length_is) at
      (reads.stretch_is thread in_thread) in
      sym (get_or-drop (stretch_at thread) (image_of machine) index 0) ∙
      sym (get_or-take stretch_words (drop (stretch_at thread) (image_of machine)) index 0 below) ∙
      ap (λ (part : List ℕ). get_or part index 0) stretch

  -- the cells are written before the first thread's log
  pub written-cells : (image : List ℕ) → length image ≡ image_words → WrittenTo machine (persisted_into machine.cache image) 0
  written-cells image long =
      let is = persisted_into-long machine.cache image (omega arith) in
      record {
        within = omega arith;
        cells = cells;
        as_long = ap length is ∙ simp (length-append, length-drop) (omega arith);
        front = λ place below.
            ap (λ (l : List ℕ). get_or l place 0) is ∙
            get_or-append machine.cache.persisted (drop cell_count image) 0 place (omega arith) ∙
            sym (cell_at place (omega arith));
        back = λ place from below. absurd (omega arith);
      }

  -- one more thread's head and stretch are written
  pub written-more : (image : List ℕ) (thread : ℕ) → thread < thread_count → WrittenTo machine image thread
      → WrittenTo machine (log_into (log_of machine thread) thread image) (thread + 1)
  written-more image thread in_thread at =
      let log = log_of machine thread in
      let long = at.as_long in
      let whole = words thread in_thread in
      record {
        within = omega arith;
        cells = cells;
        as_long = into-long log thread image in_thread long whole;
        front = λ place below.
            by_cases (ℕ_discrete place (heads_at + thread))
            (λ same. rw same (into-head log thread image in_thread long whole ∙ sym (reads.head_is thread in_thread)))
            (λ other. into-other log thread image in_thread long whole place (omega arith) other ∙ at.front place (omega arith));
        back = λ place from below.
            by_cases (dec_lt place (stretch_at thread))
            (λ earlier. into-other log thread image in_thread long whole place earlier (omega arith) ∙ at.back place from earlier)
            (λ past.
            let index : ℕ = place - stretch_at thread in
            let here : place ≡ stretch_at thread + index = omega arith in
            rw here (into-stretch log thread image in_thread long whole index (omega arith) ∙
            sym (word_at thread in_thread index (omega arith))));
      }

  -- once all threads' heads and stretches are written, the image is whole
  pub written_all : (image : List ℕ) (thread : ℕ) → thread_count ≤ thread → WrittenTo machine image thread → image ≡ image_of machine
  written_all image thread past at =
      ext_get_or 0 image (image_of machine) (at.as_long ∙ sym reads.length_is)
      (λ place below.
      by_cases (dec_lt place (stretch_at 0))
      (λ early. at.front place (omega (arith, at.within)))
      (λ late. at.back place (omega arith) (omega (arith, at.within, at.as_long))))
