-- The logs of an image, as they are read: a head and a stretch for each thread, and how many entries are present.
use Prim.Native.Nat.{ℕ, ◌+◌, ◌≤◌, ◌<◌}
use mathlib.Core.Path.{◌≡◌, sym, ap, ap₂, ◌∙◌}
use mathlib.Core.List.{List, []}
use native.Mathlib.Omega.{arith}
use lib.ListN.{length, get_or, take, drop, length-map, length-drop}
use lib.Seq.{get_or-take, get_or-drop, length-take-le}
use Rattle.std.specs.List.{list_any}
use Rattle.sizes.specs.Sizes.{thread_count}
use Rattle.answer.specs.Lists.{tab, some_below}
use Rattle.answer.proofs.Searches.{any-list, search_same}
use Rattle.answer.proofs.ListLaws.{length-tab, get_d-tab, map_tab}
use Rattle.ring.specs.Ring.{slot_count}
use Rattle.reader.specs.Stretch.{image_words, heads_at, stretch_of, holds, present_of}
use Rattle.reader.proofs.Presence.{present-at-most}
use Rattle.image.specs.Stored.{StoredLog, stored_logs, present_in, present_entries}
use Rattle.image.specs.Tests.{is_bad_head}
use Rattle.image.specs.Reading.{log_of, log_in}

-- a log has no more present entries than slots
pub present_few : (log : StoredLog) → present_in log ≤ slot_count
unfolding present_of
present_few log = present-at-most (holds log.stretch) log.head slot_count

module _ (image : List ℕ) where
  -- a thread's stretch, from its head on
  abbrev log_at : ℕ → StoredLog
  log_at thread = log_of (stretch_of image thread) (get_or image (heads_at + thread) 0)

  -- each thread has a count of present entries
  pub counts-long : length (present_entries image) ≡ thread_count
  unfolding stored_logs
  counts-long = length-map (tab thread_count log_at) present_in ∙ length-tab thread_count log_at

  module _ (thread : ℕ) (inside : thread < thread_count) where
    pub log-in : log_in image thread ≡ log_at thread
    unfolding stored_logs
    log-in = get_d-tab thread_count log_at thread (log_of [] 0) inside

    -- the word that is read is the head of the thread's log
    pub head-word : get_or image (heads_at + thread) 0 ≡ (log_in image thread).head
    head-word = ap (λ (log : StoredLog). log.head) (sym log-in)

    -- what is read is the thread's log
    pub log-read : {stretch : List ℕ} {head : ℕ} → stretch ≡ stretch_of image thread → head ≡ (log_in image thread).head →
        log_of stretch head ≡ log_in image thread
    log-read {stretch} {head} stretch_is head_is = ap₂ log_of stretch_is (head_is ∙ rw log-in) ∙ sym log-in

    -- a thread's count is that of its log's present entries
    pub count-present : get_or (present_entries image) thread 0 ≡ present_in (log_in image thread)
    unfolding stored_logs
    count-present =
        ap (λ (counts : List ℕ). get_or counts thread 0) (map_tab present_in thread_count log_at)
        ∙ get_d-tab thread_count (λ t. present_in (log_at t)) thread 0 inside
        ∙ ap present_in (sym log-in)

  -- the words of the heads are those of the logs
  pub heads-searched : length image ≡ image_words →
      list_any (λ head. is_bad_head (log_of [] head)) (take thread_count (drop heads_at image)) ≡
      some_below thread_count (λ thread. is_bad_head (log_in image thread))
  unfolding is_bad_head
  heads-searched words =
      let heads = take thread_count (drop heads_at image) in
      let long : length heads ≡ thread_count = length-take-le thread_count (drop heads_at image) (omega (arith, length-drop heads_at image)) in
      any-list (λ head. is_bad_head (log_of [] head)) heads 0
      ∙ ap (λ (count : ℕ). some_below count (λ thread. is_bad_head (log_of [] (get_or heads thread 0)))) long
      ∙ search_same thread_count _ _
      (λ thread inside.
      ap (λ (head : ℕ). is_bad_head (log_of [] head))
      (get_or-take thread_count (drop heads_at image) thread 0 inside
      ∙ get_or-drop heads_at image thread 0 ∙ head-word thread inside))
