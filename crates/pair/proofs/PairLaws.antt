-- What a pair is tested for: its thread, that the thread has an entry left, its LSN, and whether its entry may be taken.
use Prim.Native.Nat.{ℕ, ◌+◌, ◌≤◌, ◌<◌}
use mathlib.Core.Path.{◌≡◌, refl, sym, ◌∙◌}
use mathlib.Core.Bool.{Bool, true, false, and-false, true≢false}
use mathlib.Core.List.{List}
use borrow.Author.Tests.{eqb-true, eq-eqb, ne_eqb, ltb-true, lt-ltb, le-ltb}
use Rattle.sizes.specs.Sizes.{thread_count}
use Rattle.image.specs.Stored.{StoredLog, stored_log}
use Rattle.image.specs.Reading.{entry_in}
use Rattle.image.specs.declared.Entry.{Entry}
use Rattle.undoing.specs.Undo.{left_of, may_take_entry, may_take}
use Rattle.orders.specs.Orders.{Name, name}
use Rattle.orders.proofs.UndoSteps.{last_of, all_hold, each_holds}
use Rattle.orders.proofs.Takes.{name_of}
use Rattle.orders.proofs.OrderLaws.{same_name}
use Rattle.pair.specs.Pair.{may_take_name}

module _ (logs : List StoredLog) (left : List ℕ) where
  -- a pair whose entry may be taken names its thread's last one
  pub record Named (entry : Name) : Type 0 where
    pub in_range : entry.thread < thread_count
    pub is_last : entry ≡ name_of logs entry.thread (last_of left entry.thread)
    pub may : may_take logs left entry.thread ≡ true

  pub may-named : (entry : Name) → may_take_name logs left entry ≡ true → Named entry
  unfolding may_take_name
  may-named entry holds =
      let says = each_holds _ _ _ holds in
      record {
        in_range = ltb-true _ _ says.0;
        is_last = same_name entry (name_of logs entry.thread (last_of left entry.thread)) refl (eqb-true _ _ says.1);
        may = says.2;
      }

  pub named-may : (thread : ℕ) → thread < thread_count → may_take logs left thread ≡ true →
      may_take_name logs left (name_of logs thread (last_of left thread)) ≡ true
  unfolding may_take_name
  named-may thread in_range may = all_hold (lt-ltb _ _ in_range) (eq-eqb ((stored_log logs thread).head + last_of left thread) _ refl) may

  -- what a pair is tested for, one thing after the other
  pub other-thread : (thread lsn : ℕ) → thread_count ≤ thread → may_take_name logs left (name thread lsn) ≡ false
  unfolding may_take_name
  other-thread thread lsn over = rw (le-ltb thread thread_count over)

  pub none-remains : (thread lsn : ℕ) → left_of left thread ≡ 0 → may_take_name logs left (name thread lsn) ≡ false
  unfolding may_take_name may_take
  none-remains thread lsn nothing = rw (eq-eqb (left_of left thread) 0 nothing, and-false)

  pub other-lsn : (thread lsn : ℕ) → (lsn ≡ (stored_log logs thread).head + last_of left thread → ⊥) →
      may_take_name logs left (name thread lsn) ≡ false
  unfolding may_take_name
  other-lsn thread lsn differs = rw (ne_eqb lsn ((stored_log logs thread).head + last_of left thread) differs, and-false)

  pub last-decides : (thread lsn : ℕ) → thread < thread_count → (left_of left thread ≡ 0 → ⊥) →
      lsn ≡ (stored_log logs thread).head + last_of left thread → {last : Entry} {may : Bool} →
      may ≡ may_take_entry logs left last.kind last.place last.value → last ≡ entry_in (stored_log logs thread) (last_of left thread) →
      may ≡ may_take_name logs left (name thread lsn)
  unfolding may_take_name may_take
  last-decides thread lsn in_range remains is_last is read =
      is ∙
      rw (
        read,
        lt-ltb thread thread_count in_range,
        eq-eqb lsn ((stored_log logs thread).head + last_of left thread) is_last,
        ne_eqb (left_of left thread) 0 remains,
      )

  -- a pair whose entry may be taken is of a thread that has one left
  pub in-range : (entry : Name) → may_take_name logs left entry ≡ true → entry.thread < thread_count
  in-range entry may = (may-named entry may).in_range

  pub one-remains : (entry : Name) → may_take_name logs left entry ≡ true → left_of left entry.thread ≡ 0 → ⊥
  one-remains entry may nothing = true≢false (sym may ∙ none-remains entry.thread entry.lsn nothing)
