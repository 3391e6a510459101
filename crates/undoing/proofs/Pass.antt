-- The one pass through the logs, thread by thread: what is remembered is that of the entries that are passed.
use Prim.Native.Nat.{ℕ, suc, ◌+◌, ◌*◌, ◌≤◌, ◌<◌}
use mathlib.Core.Path.{◌≡◌, refl, sym, ap, ◌∙◌}
use mathlib.Core.Bool.{cond}
use mathlib.Core.List.{List, []}
use mathlib.Core.Logic.{by_cases}
use native.Mathlib.Decide.{dec_lt, ℕ_discrete}
use native.Mathlib.Omega.{arith}
use borrow.Author.Tests.{lt-ltb, le-ltb, eq-eqb, ne_eqb}
use lib.ListN.{replicate, set, length-replicate, get_or-replicate}
use lib.Dec.{eqb, ltb}
use Rattle.sizes.specs.Sizes.{thread_count, lock_count}
use Rattle.answer.proofs.ListLaws.{cond_same}
use Rattle.ring.specs.Ring.{slot_count}
use Rattle.event.specs.Events.{sync_count}
use Rattle.event.specs.declared.SyncCount.{SyncCount}
use Rattle.image.specs.Stored.{present_in, present_entries}
use Rattle.image.specs.Reading.{log_in, entry_in, Good, Readable}
use Rattle.image.specs.declared.Entry.{Entry}
use Rattle.image.proofs.LogsRead.{present_few, count-present}
use Rattle.image.proofs.GoodEntries.{present_good}
use Rattle.undoing.specs.Undo.{left_of}
use Rattle.undoing.specs.Latest.{latest_acquire, lock_of, row_of, count_of, later_of, Remembers}
use Rattle.undoing.proofs.LatestLaws.{remember-more, remember-same}

-- how many entries of each thread are passed, where the pass stands in this thread's log with so many of its entries passed
abbrev pub seen_of : List ℕ → ℕ → ℕ → ℕ → ℕ
seen_of left thread index other = cond (ltb other thread) (left_of left other) (cond (eqb other thread) index 0)

module _ (left : List ℕ) (thread index : ℕ) where
  seen-before : (other : ℕ) → other < thread → seen_of left thread index other ≡ left_of left other
  seen-before other before = rw (lt-ltb other thread before)

  seen-here : seen_of left thread index thread ≡ index
  seen-here = rw (le-ltb thread thread (omega arith), eq-eqb thread thread refl)

  seen-after : (other : ℕ) → thread < other → seen_of left thread index other ≡ 0
  seen-after other after = rw (le-ltb other thread (omega arith), ne_eqb other thread (λ same. omega arith))

-- at a thread's beginning nothing of it is passed
seen-start : (left : List ℕ) (thread other : ℕ) → thread ≤ other → seen_of left thread 0 other ≡ 0
seen-start left thread other no-earlier = rw (le-ltb other thread no-earlier) (cond_same (eqb other thread) 0)

module _ {image left : List ℕ} (readable : Readable image) (left_is : left ≡ present_entries image) where
  left-present : (thread : ℕ) → thread < thread_count → left_of left thread ≡ present_in (log_in image thread)
  left-present thread inside = ap (λ (counts : List ℕ). left_of counts thread) left_is ∙ count-present image thread inside

  pub left-few : (thread : ℕ) → thread < thread_count → left_of left thread ≤ slot_count
  left-few thread inside = omega (arith, left-present thread inside, present_few (log_in image thread))

  -- before the first entry nothing is remembered
  pub pass-starts : Remembers image (seen_of left 0 0) (replicate lock_count (replicate thread_count (sync_count 0)))
      (replicate (thread_count * slot_count) (sync_count 0))
  unfolding latest_acquire
  pass-starts = record {
    locks = length-replicate lock_count (replicate thread_count (sync_count 0));
    rows = λ lock locked. rw (row_is lock locked) (length-replicate thread_count (sync_count 0));
    places = length-replicate (thread_count * slot_count) (sync_count 0);
    few = λ thread inside. omega (arith, seen-start left 0 thread (omega arith));
    latest_is = λ thread lock inside locked.
        rw (row_is lock locked, seen-start left 0 thread (omega arith))
        (ap (λ (count : SyncCount). count.0) (get_or-replicate thread_count thread (sync_count 0) (sync_count 0) inside));
    earlier_is = λ thread index inside below. absurd (omega (arith, seen-start left 0 thread (omega arith), below));
  }
    where
      row_is : (lock : ℕ) → lock < lock_count →
          row_of (replicate lock_count (replicate thread_count (sync_count 0))) lock ≡ replicate thread_count (sync_count 0)
      row_is lock locked = get_or-replicate lock_count lock (replicate thread_count (sync_count 0)) [] locked

  -- one entry is passed
  module _ (thread index : ℕ) (inside : thread < thread_count) (has : index < left_of left thread) where
    entry-good : Good (entry_in (log_in image thread) index)
    entry-good =
        present_good (log_in image thread) (readable.good thread inside) index (omega (arith, has, left-present thread inside))

    others-seen : (other : ℕ) → other < thread_count → (other ≡ thread → ⊥) →
        seen_of left thread (index + 1) other ≡ seen_of left thread index other
    others-seen other other-inside another = rw (ne_eqb other thread another)

    pub pass-on : {latest : List (List SyncCount)} {earlier : List SyncCount} → Remembers image (seen_of left thread index) latest earlier →
        (entry : Entry) → entry ≡ entry_in (log_in image thread) index →
        let row = row_of latest (lock_of entry.place) in
        Remembers image (seen_of left thread (index + 1))
        (set latest (lock_of entry.place) (set row thread (later_of (count_of row thread) entry)))
        (set earlier (thread * slot_count + index) (count_of row thread))
    pass-on {latest} {earlier} old entry entry-is =
        let here = seen-here left thread index in
        let next : seen_of left thread (index + 1) thread ≡ suc (seen_of left thread index thread) =
        seen-here left thread (index + 1) ∙ omega (arith, here) in
        let more = remember-more old thread inside (omega (arith, here, has, left-few thread inside)) (rw here entry-good)
        (seen_of left thread (index + 1)) next others-seen in
        rw entry-is (rw here at more)

  -- a thread's log is passed
  pub pass-thread : (thread : ℕ) {latest : List (List SyncCount)} {earlier : List SyncCount} →
      Remembers image (seen_of left thread (left_of left thread)) latest earlier → Remembers image (seen_of left (thread + 1) 0) latest earlier
  pass-thread thread old = remember-same old (seen_of left (thread + 1) 0) same
    where
      same : (other : ℕ) → other < thread_count → seen_of left (thread + 1) 0 other ≡ seen_of left thread (left_of left thread) other
      same other inside =
          by_cases (dec_lt thread other)
          (λ after. seen-start left (thread + 1) other (omega arith) ∙ sym (seen-after left thread (left_of left thread) other after))
          (λ no-later.
          seen-before left (thread + 1) 0 other (omega arith)
          ∙ by_cases (ℕ_discrete other thread)
          (λ here. rw here (sym (seen-here left thread (left_of left thread))))
          (λ another. sym (seen-before left thread (left_of left thread) other (omega arith))))

  -- past the last thread all present entries are remembered
  pub pass-ends : {latest : List (List SyncCount)} {earlier : List SyncCount} → Remembers image (seen_of left thread_count 0) latest earlier →
      Remembers image (left_of left) latest earlier
  pass-ends old = remember-same old (left_of left) (λ other inside. sym (seen-before left thread_count 0 other inside))
