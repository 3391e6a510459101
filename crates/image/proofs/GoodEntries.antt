-- What tests 22 and 23 tell of a head and of an entry that they let pass.
use Prim.Native.Nat.{ℕ, ◌+◌, ◌≤◌, ◌<◌}
use mathlib.Core.Path.{◌≡◌, refl, sym, ◌∙◌}
use mathlib.Core.Bool.{Bool, true, false, true≢false, ◌||◌}
use native.Mathlib.Omega.{arith}
use borrow.Author.Tests.{ltb-true, ltb-false, not-false, eq-eqb, ne_eqb}
use lib.Dec.{eqb, ltb}
use Rattle.sizes.specs.Sizes.{lock_count}
use Rattle.answer.proofs.BelowLaws.{some_below-none}
use Rattle.ring.specs.Ring.{last_lsn}
use Rattle.reader.specs.Stretch.{heads_at}
use Rattle.image.specs.Stored.{StoredLog, present_in, entry_kind, entry_place, entry_value}
use Rattle.image.specs.Tests.{is_bad_head, is_bad_entry, has_bad_entry}
use Rattle.image.specs.Reading.{entry_in, is_bad, Good}
use Rattle.image.specs.declared.Entry.{Entry}

-- neither of two tests holds
or_first : (one other : Bool) → (one || other) ≡ false → one ≡ false
or_first false other neither = refl
or_first true other neither = neither

or_second : (one other : Bool) → (one || other) ≡ false → other ≡ false
or_second false other neither = neither
or_second true other neither = absurd (true≢false neither)

-- a head that test 22 lets pass is an LSN, or the number after the last one
pub good_head : (log : StoredLog) → is_bad_head log ≡ false → log.head ≤ last_lsn + 1
unfolding is_bad_head
good_head log good = ltb-false (last_lsn + 1) log.head (or_second (eqb log.head 0) _ good)

module _ (entry : Entry) (good : Good entry) where
  -- a good entry is of some kind
  pub good-known : entry.kind ≡ 0 → ⊥
  unfolding is_bad_entry
  good-known none =
      let is-bad : is_bad entry ≡ true = rw none in
      true≢false (sym is-bad ∙ good)

  -- a good STORE is of a cell
  pub good-store : entry.kind ≡ 1 → entry.place < heads_at
  unfolding is_bad_entry
  good-store store =
      ltb-true entry.place heads_at (not-false (ltb entry.place heads_at) (rw (eq-eqb entry.kind 1 store) at good))

  -- a good ACQUIRE and a good RELEASE are of a lock
  pub good-acquire : entry.kind ≡ 2 → entry.place < lock_count
  unfolding is_bad_entry
  good-acquire acquire =
      let other = ne_eqb entry.kind 1 (λ store. omega arith) in
      ltb-true entry.place lock_count
      (not-false (ltb entry.place lock_count) (or_first _ _ (rw (other, eq-eqb entry.kind 2 acquire) at good)))

  pub good-release : entry.kind ≡ 3 → entry.place < lock_count
  unfolding is_bad_entry
  good-release release =
      let other = ne_eqb entry.kind 1 (λ store. omega arith) in
      let another = ne_eqb entry.kind 2 (λ acquire. omega arith) in
      ltb-true entry.place lock_count
      (not-false (ltb entry.place lock_count) (or_first _ _ (rw (other, another, eq-eqb entry.kind 3 release) at good)))

-- in a log that has no bad entry every present one is good
pub present_good : (log : StoredLog) → has_bad_entry log ≡ false → (index : ℕ) → index < present_in log → Good (entry_in log index)
unfolding has_bad_entry
present_good log none =
    some_below-none (present_in log) (λ index. is_bad_entry (entry_kind log index) (entry_place log index) (entry_value log index)) none
