-- Only the kinds that the documents name alter the image: which cells, heads and slots each effect leaves as they were, and so which words
-- of the image.
use Prim.Native.Nat.{ℕ, ◌+◌, ◌-◌, ◌*◌, ◌/◌, ◌%◌, ◌≤◌, ◌<◌}
use native.Mathlib.Decide.{dec_lt}
use native.Mathlib.Omega.{arith}
use mathlib.Core.Path.{◌≡◌, refl, sym, ap, ◌∙◌, subst}
use mathlib.Core.Bool.{Bool, true, false, cond, ◌&&◌, ◌||◌, true≢false}
use mathlib.Core.List.{List, [], ◌∷◌, ◌++◌}
use mathlib.Core.Logic.{◌≢◌, by_cases}
use Rattle.std.specs.Prelude.{Some}
use lib.ListN.{length, get_or, set, get_or-eq_default}
use lib.Dec.{eqb}
use borrow.Author.Tests.{lt-ltb, eq-eqb}
use Rattle.sizes.specs.Sizes.{thread_count, entry_words}
use Rattle.answer.specs.Answer.{is_accepted}
use Rattle.answer.proofs.BelowLaws.{some_below-none, found-some_below}
use Rattle.answer.proofs.ListCases.{set_cases}
use Rattle.cache.specs.Cache.{cell_count, line_of, cached_at, persisted_at, is_pending, fence_of, evict_cell_of}
use Rattle.cache.specs.declared.Cache.{Cache}
use Rattle.cache.proofs.CacheLaws as CacheLaws
use Rattle.ring.specs.Ring.{slot_count, slot_of}
use Rattle.tail.specs.Tail.{unfenced}
use Rattle.entry.specs.Words.{zeros, slot_words}
use Rattle.thread_log.specs.Entries.{append_of, flush_log_of, fence_log_of, evict_words_of, drop_of}
use Rattle.reader.specs.Stretch.{image_words, heads_at, stretch_words, stretch_at}
use Rattle.entry.specs.declared.Entry.{Entry}
use Rattle.thread_log.specs.declared.Log.{Log}
use Rattle.thread_log.proofs.SlotLaws.{slot-word, persist-word, run_elsewhere}
use Rattle.undo.specs.Entering.{end_release_of}
use Rattle.kinds.specs.Kinds.{kind_of}
use Rattle.kinds.specs.declared.Kind.{Kind}
use Rattle.kinds.specs.declared.Kind.TheVariants.{Load as LOAD, Log as LOG, Store as STORE, Acquire as ACQUIRE, LogRel as LOGREL}
use Rattle.kinds.specs.declared.Kind.TheVariants.{Release as RELEASE, Flush as FLUSH, FlushLog as FLUSHLOG, Fence as FENCE, Prune as PRUNE}
use Rattle.kinds.specs.declared.Kind.TheVariants.{EvictLog as EVICTLOG, EvictCell as EVICTCELL, EvictWords as EVICTWORDS}
use Rattle.machine.specs.Effects.{effect, load_effect, first_log_effect, store_effect, acquire_effect, log_release_effect, release_effect}
use Rattle.machine.specs.Effects.{flush_effect, flush_log_effect, fence_effect, prune_effect, evict_log_effect}
use Rattle.machine.specs.Effects.{evict_cell_effect, evict_words_effect}
use Rattle.machine.specs.Holds.{no_log, log_of}
use Rattle.machine.specs.Image.{image_of}
use Rattle.machine.specs.Runs.{Step, step_with, Reached}
use Rattle.machine.specs.State.{Machine}
use Rattle.machine.proofs.LogCases.{log_cases}
use Rattle.machine.proofs.ImageWritten.{reads, cell_at, word_at}
use Rattle.machine.proofs.Reaching.{after_then}
use Rattle.machine.proofs.Sizes.{Sized, after-sized}
use Rattle.machine.proofs.StepLaws.{step-cases, effect-accepted}
use Rattle.atomicity.specs.History.{start_machine, machine_after}
use Rattle.laws.specs.KeptOnly.{is_cell_word, is_first_word, is_slot_word, is_head_word, is_pending_word, is_flushed_word}
use Rattle.laws.specs.KeptOnly.{altered_by, may_alter, KeptOnly}
use Rattle.atomicity.proofs.HistoryRuns.{thread-in-range}
use Rattle.atomicity.proofs.RunInvariantHolds.{after_run}

-- what a slot of a log keeps
abbrev kept_slot : Log → ℕ → Entry
kept_slot log slot = get_or log.persisted slot zeros

-- where a word of a thread's slot stands in an image
abbrev slot_place : ℕ → ℕ → ℕ → ℕ
slot_place thread slot index = stretch_at thread + (slot * entry_words + index)

-- the cells of a cache are as they were, but where the test holds of their word of the image
record KeptCells (alters : ℕ → Bool) (old new : Cache) : Type 0 where
  cells : (cell : ℕ) → cell < cell_count → alters cell ≡ false → persisted_at new cell ≡ persisted_at old cell

-- the head and the slots of a thread's log are as they were, but where the test holds of their word of the image
record KeptLog (alters : ℕ → Bool) (thread : ℕ) (old new : Log) : Type 0 where
  head : alters (heads_at + thread) ≡ false → new.head.0 ≡ old.head.0
  slots : (slot index : ℕ) → index < entry_words → alters (slot_place thread slot index) ≡ false
      → get_or (slot_words (kept_slot new slot)) index 0 ≡ get_or (slot_words (kept_slot old slot)) index 0

-- all that a machine's image holds is as it was, but where the test holds of the word
record Kept (alters : ℕ → Bool) (old new : Machine) : Type 0 where
  cache : KeptCells alters old.cache new.cache
  logs : (thread : ℕ) → KeptLog alters thread (log_of old thread) (log_of new thread)

-- ---- the image, read by cell, head and slot

-- what it takes to read a machine's image
record Imaged (machine : Machine) : Type 0 where
  reached : Reached machine
  cache_sized : CacheLaws.Sized machine.cache

module _ (machine : Machine) (imaged : Imaged machine) where
  cells-long : length machine.cache.persisted ≡ cell_count
  cells-long = imaged.cache_sized.persisted-long

  image-long : length (image_of machine) ≡ image_words
  image-long = (reads machine imaged.reached cells-long).length_is

  image-cell : (cell : ℕ) → cell < cell_count → get_or (image_of machine) cell 0 ≡ persisted_at machine.cache cell
  image-cell = cell_at machine imaged.reached cells-long

  image-head : (thread : ℕ) → thread < thread_count → get_or (image_of machine) (heads_at + thread) 0 ≡ (log_of machine thread).head.0
  image-head = (reads machine imaged.reached cells-long).head_is

  image-slot : (thread slot index : ℕ) → thread < thread_count → slot < slot_count → index < entry_words
      → get_or (image_of machine) (slot_place thread slot index) 0 ≡ get_or (slot_words (kept_slot (log_of machine thread) slot)) index 0
  image-slot thread slot index in_thread in_slot in_entry =
      word_at machine imaged.reached cells-long thread in_thread (slot * entry_words + index) (omega arith)
      ∙ slot-word (log_of machine thread).persisted slot index in_entry

  image-past : (word : ℕ) → image_words ≤ word → get_or (image_of machine) word 0 ≡ 0
  image-past word past = get_or-eq_default (image_of machine) 0 {n = word} (omega (arith, image-long))

-- where cells, heads and slots are as they were, so are the words of the image
module _ (alters : ℕ → Bool) (old new : Machine) (was : Imaged old) (now : Imaged new) (kept : Kept alters old new) where
  -- the word is as it was, where the test fails
  abbrev IsKept : ℕ → Type 0
  IsKept word = alters word ≡ false → get_or (image_of new) word 0 ≡ get_or (image_of old) word 0

  cell-kept : (cell : ℕ) → cell < cell_count → IsKept cell
  cell-kept cell in_cells fails =
      image-cell new now cell in_cells ∙ kept.cache.cells cell in_cells fails ∙ sym (image-cell old was cell in_cells)

  head-kept : (thread : ℕ) → thread < thread_count → IsKept (heads_at + thread)
  head-kept thread in_thread fails =
      image-head new now thread in_thread ∙ (kept.logs thread).head fails ∙ sym (image-head old was thread in_thread)

  slot_kept : (thread slot index : ℕ) → thread < thread_count → slot < slot_count → index < entry_words → IsKept (slot_place thread slot index)
  slot_kept thread slot index in_thread in_slot in_entry fails =
      image-slot new now thread slot index in_thread in_slot in_entry
      ∙ (kept.logs thread).slots slot index in_entry fails
      ∙ sym (image-slot old was thread slot index in_thread in_slot in_entry)

  past-kept : (word : ℕ) → image_words ≤ word → IsKept word
  past-kept word past fails = image-past new now word past ∙ sym (image-past old was word past)

  image-kept : (word : ℕ) → IsKept word
  image-kept word =
      by_cases (dec_lt word heads_at) (cell-kept word)
      (λ past_cells.
      by_cases (dec_lt word (stretch_at 0))
      (λ in_heads.
      let thread : ℕ = word - heads_at in
      let is : heads_at + thread ≡ word = omega arith in
      subst IsKept is (head-kept thread (omega arith)))
      (λ past_heads.
      by_cases (dec_lt word image_words)
      (λ in_slots.
      let thread : ℕ = (word - stretch_at 0) / stretch_words in
      let slot : ℕ = (word - stretch_at 0) % stretch_words / entry_words in
      let index : ℕ = (word - stretch_at 0) % entry_words in
      let is : slot_place thread slot index ≡ word = omega arith in
      subst IsKept is (slot_kept thread slot index (omega arith) (omega arith) (omega arith)))
      (λ past. past-kept word (omega arith))))

-- ---- what a change of a log leaves
module _ {alters : ℕ → Bool} {thread : ℕ} {old new : Log} where
  -- a slot is as it was where the test fails of one of its words
  kept-slots : (alters (heads_at + thread) ≡ false → new.head.0 ≡ old.head.0)
      → ((slot index : ℕ) → index < entry_words → alters (slot_place thread slot index) ≡ false → kept_slot new slot ≡ kept_slot old slot)
      → KeptLog alters thread old new
  kept-slots same_head same = record {
    head = same_head;
    slots = λ slot index in_entry fails. ap (λ (entry : Entry). get_or (slot_words entry) index 0) (same slot index in_entry fails);
  }

  -- the head and all slots are as they were
  kept-all : new.head.0 ≡ old.head.0 → new.persisted ≡ old.persisted → KeptLog alters thread old new
  kept-all same_head same =
      kept-slots (λ fails. same_head) (λ slot index in_entry fails. ap (λ (slots : List Entry). get_or slots slot zeros) same)

  -- what is kept outside of some words is kept outside of more
  log-outside : {more : ℕ → Bool} → ((word : ℕ) → more word ≡ false → alters word ≡ false) → KeptLog alters thread old new
      → KeptLog more thread old new
  log-outside fewer kept = record {
    head = λ fails. kept.head (fewer (heads_at + thread) fails);
    slots = λ slot index in_entry fails. kept.slots slot index in_entry (fewer (slot_place thread slot index) fails);
  }

-- a word of one slot that is none of another's tells the two apart
other-slot : (thread slot other index : ℕ) → index < entry_words → is_slot_word thread other (slot_place thread slot index) ≡ false
    → slot ≢ other
other-slot thread slot other index in_entry fails same =
    let word : ℕ = slot_place thread slot index in
    let own : eqb word (slot_place thread other index) ≡ true = eq-eqb word (slot_place thread other index) (rw same) in
    true≢false (sym (found-some_below entry_words (λ at. eqb word (slot_place thread other at)) index in_entry own) ∙ fails)

-- a word of a slot that is none of its first so many stands past them
past_first : (thread slot count index : ℕ) → is_first_word thread slot count (slot_place thread slot index) ≡ false → count ≤ index
past_first thread slot count index fails =
    by_cases (dec_lt index count)
    (λ inside.
    let word : ℕ = slot_place thread slot index in
    absurd (true≢false
    (sym (found-some_below count (λ at. eqb word (slot_place thread slot at)) index inside (eq-eqb word word refl)) ∙ fails)))
    (λ past. omega (arith, past))

-- EVICTWORDS, and EVICTLOG with all words, leaves all of a log's words in the image but the first so many of its slot
evicted-words : (thread slot count : ℕ) (log : Log) → KeptLog (is_first_word thread slot count) thread log (evict_words_of log slot count)
unfolding evict_words_of
evicted-words thread slot count log = record {
  head = λ fails. refl;
  slots = λ other index in_entry fails.
      persist-word log.cached log.persisted slot count index other
      (λ same. past_first thread slot count index (rw same at fails));
}

-- PRUNE leaves all of a log's words in the image but the thread's head
dropped_log : (thread count : ℕ) (log : Log) → KeptLog (is_head_word thread) thread log (drop_of log count)
unfolding drop_of
dropped_log thread count log =
    kept-slots
    (λ fails. absurd (true≢false (sym (eq-eqb (heads_at + thread) (heads_at + thread) refl) ∙ fails)))
    (λ slot index in_entry fails. refl)

-- FENCE leaves all of a log's words in the image but the slots of the entries that were flushed and not durable
fenced_log : (thread : ℕ) (log : Log) → KeptLog (is_flushed_word log thread) thread log (fence_log_of log)
unfolding fence_log_of
fenced_log thread log =
    let first : ℕ = log.tail.durable.0 + 1 in
    let count : ℕ = unfenced log.tail in
    kept-slots (λ fails. refl)
    (λ slot index in_entry fails.
    run_elsewhere log.cached log.persisted first count slot
    (λ live from to same.
    let at : ℕ = live - first in
    let is_at : live ≡ first + at = omega arith in
    let word : ℕ = slot_place thread slot index in
    let none = some_below-none count (λ at. is_slot_word thread (slot_of (first + at)) word) fails at (omega arith) in
    other-slot thread slot (slot_of (first + at)) index in_entry none (sym same ∙ ap slot_of is_at)))

-- ---- what a change of the cache leaves
module _ {alters : ℕ → Bool} {old new : Cache} where
  -- all cells are as they were
  all-cells : ((cell : ℕ) → persisted_at new cell ≡ persisted_at old cell) → KeptCells alters old new
  all-cells same = record { cells = λ cell in_cells fails. same cell }

  -- what is kept outside of some words is kept outside of more
  cells-outside : {more : ℕ → Bool} → ((word : ℕ) → more word ≡ false → alters word ≡ false) → KeptCells alters old new
      → KeptCells more old new
  cells-outside fewer kept = record { cells = λ cell in_cells fails. kept.cells cell in_cells (fewer cell fails) }

module _ (cache : Cache) (sized : CacheLaws.Sized cache) where
  -- the content that a cell gets: the cached one, or the one that it had
  abbrev choice : ℕ → Bool → ℕ
  choice cell is_new = cond is_new (cached_at cache cell) (persisted_at cache cell)

  -- EVICTCELL leaves all persisted cells but its own
  evicted-cell : (cell : ℕ) → KeptCells (is_cell_word cell) cache (evict_cell_of cache cell)
  evicted-cell cell = record {
    cells = λ other in_cells fails. CacheLaws.evict_cell_of-persisted cache sized cell other ∙ ap (choice other) fails;
  }

  -- FENCE leaves all persisted cells but those of the lines whose flush by this thread is pending
  fenced-cells : (thread : ℕ) → KeptCells (is_pending_word cache thread) cache (fence_of cache thread)
  fenced-cells thread = record {
    cells = λ cell in_cells fails.
        let unmarked : is_pending cache thread (line_of cell) ≡ false = rw (lt-ltb cell cell_count in_cells) at fails in
        CacheLaws.fence_of-persisted cache sized thread cell ∙ ap (choice cell) unmarked;
  }

-- ---- what a change of the machine leaves
module _ {alters : ℕ → Bool} {old new : Machine} (cells : KeptCells alters old.cache new.cache) where
  -- where no log changes, the image keeps what its cells keep
  same-logs : new.logs ≡ old.logs → Kept alters old new
  same-logs same = record {
    cache = cells;
    logs = λ thread.
        kept-all
        (ap (λ (logs : List Log). (get_or logs thread no_log).head.0) same)
        (ap (λ (logs : List Log). (get_or logs thread no_log).persisted) same);
  }

  -- where one log changes, the image keeps what its cells and that log keep
  one-log : (thread : ℕ) → thread < length old.logs → (log : Log) → new.logs ≡ set old.logs thread log
      → KeptLog alters thread (log_of old thread) log → Kept alters old new
  one-log thread in_logs log is_set kept = record {
    cache = cells;
    logs = λ other.
        subst (λ (logs : List Log). KeptLog alters other (log_of old other) (get_or logs other no_log)) (sym is_set)
        (set_cases old.logs thread log no_log in_logs (λ at found. KeptLog alters at (log_of old at) found)
        kept
        (λ at differs. kept-all refl refl)
        other);
  }

-- both of two tests fail
neither : (one other : Bool) → (one || other) ≡ false → (one ≡ false) × (other ≡ false)
neither true other fails = absurd (true≢false fails)
neither false other fails = (refl, fails)

-- an effect leaves all but the words of its kind
module _ (machine : Machine) (sized : Sized machine) (cache_sized : CacheLaws.Sized machine.cache)
    (thread place value : ℕ) (in_thread : thread < thread_count) where
  same-cells : {alters : ℕ → Bool} → KeptCells alters machine.cache machine.cache
  same-cells = all-cells (λ cell. refl)

  in_logs : thread < length machine.logs
  in_logs = rw sized.logs in_thread

  -- the words that a FENCE leaves are neither of a marked line nor of a marked entry
  neither-fenced : (word : ℕ) → altered_by machine (Some FENCE) thread place value word ≡ false
      → (is_pending_word machine.cache thread word ≡ false) × (is_flushed_word (log_of machine thread) thread word ≡ false)
  unfolding altered_by
  neither-fenced word = neither (is_pending_word machine.cache thread word) (is_flushed_word (log_of machine thread) thread word)

  effect-kept : (kind : Kind)
      → Kept (altered_by machine (Some kind) thread place value) machine (effect machine kind thread place value).machine
  unfolding effect load_effect first_log_effect store_effect acquire_effect log_release_effect release_effect flush_effect flush_log_effect fence_effect
      prune_effect evict_log_effect evict_cell_effect evict_words_effect append_of flush_log_of end_release_of altered_by
  effect-kept LOAD = same-logs same-cells refl
  effect-kept LOG =
      log_cases
      (λ stepped. Kept (altered_by machine (Some LOG) thread place value) machine stepped.machine)
      machine
      thread
      place
      (λ is_nowhere. one-log same-cells thread in_logs _ refl (kept-all refl refl))
      (λ number is_at. same-logs same-cells refl)
  effect-kept STORE = same-logs (all-cells (CacheLaws.store_of-persisted machine.cache cache_sized place value)) refl
  effect-kept ACQUIRE = one-log same-cells thread in_logs _ refl (kept-all refl refl)
  effect-kept LOGREL = one-log same-cells thread in_logs _ refl (kept-all refl refl)
  effect-kept RELEASE = one-log same-cells thread in_logs _ refl (kept-all refl refl)
  effect-kept FLUSH = same-logs (all-cells (CacheLaws.flush_of-persisted machine.cache cache_sized thread place)) refl
  effect-kept FLUSHLOG = one-log same-cells thread in_logs _ refl (kept-all refl refl)
  effect-kept FENCE =
      one-log
      (cells-outside (λ word fails. (neither-fenced word fails).0) (fenced-cells machine.cache cache_sized thread))
      thread
      in_logs
      _
      refl
      (log-outside (λ word fails. (neither-fenced word fails).1) (fenced_log thread (log_of machine thread)))
  effect-kept PRUNE = one-log same-cells thread in_logs _ refl (dropped_log thread _ (log_of machine thread))
  effect-kept EVICTLOG = one-log same-cells thread in_logs _ refl (evicted-words thread place entry_words (log_of machine thread))
  effect-kept EVICTCELL = same-logs (evicted-cell machine.cache cache_sized place) refl
  effect-kept EVICTWORDS = one-log same-cells thread in_logs _ refl (evicted-words thread place value (log_of machine thread))

-- a refused step leaves all, and an accepted one all but the words of its kind
step_kept : (machine : Machine) → Sized machine → CacheLaws.Sized machine.cache → (step : Step)
    → Kept (may_alter machine step) machine (step_with machine step).machine
step_kept machine sized cache_sized step =
    step-cases machine
    (λ stepped. Kept (λ word. is_accepted stepped.answer && by_kind word) machine stepped.machine)
    (λ refusal. same-logs (all-cells (λ cell. refl)) refl)
    step.kind
    step.thread
    step.place
    step.value
    (λ kind is_kind fails.
    rw (effect-accepted machine kind step.thread step.place step.value, is_kind)
    (effect-kept machine sized cache_sized step.thread step.place step.value
    (thread-in-range machine kind step.thread step.place step.value fails) kind))
  where
    by_kind : ℕ → Bool
    by_kind = altered_by machine (kind_of step.kind) step.thread step.place step.value

-- every machine that steps lead to has what it takes to read its image
after-imaged : (words : List ℕ) (steps : List Step) → Imaged (machine_after words steps)
after-imaged words steps = record {
  reached = record { words = words; steps = steps; leads = refl };
  cache_sized = (after_run words steps).machine_holds.cache_sized;
}

pub kept-only : KeptOnly
kept-only words steps step =
    let machine : Machine = machine_after words steps in
    let stepped : Machine = (step_with machine step).machine in
    let was : Imaged machine = after-imaged words steps in
    let now : Imaged stepped = subst Imaged (after_then (start_machine words) steps step) (after-imaged words (steps ++ (step ∷ []))) in
    record {
      whole = image-long machine was;
      stays_whole = image-long stepped now;
      others =
          image-kept (may_alter machine step) machine stepped was now
          (step_kept machine (after-sized words steps) was.cache_sized step);
    }
