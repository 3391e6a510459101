-- Whether a thread's last entry may be taken, by what is remembered: asked of the entry that was read.
use Prim.Native.Nat.{ℕ, ◌-◌, ◌≤◌, ◌<◌}
use mathlib.Core.Path.{◌≡◌, ap, ◌∙◌}
use mathlib.Core.Bool.{Bool, true, false, not, cond}
use mathlib.Core.List.{List}
use borrow.Author.Tests.{eq-eqb, ne_eqb}
use native.Mathlib.Omega.{arith}
use lib.Dec.{eqb, ltb}
use Rattle.std.specs.Prelude.{Option, Some, None}
use Rattle.std.specs.Option.{MatchOption}
use Rattle.sizes.specs.Sizes.{thread_count}
use Rattle.answer.specs.Lists.{some_below}
use Rattle.event.specs.declared.SyncCount.{SyncCount}
use Rattle.image.specs.Stored.{StoredLog}
use Rattle.image.specs.Reading.{entry_in}
use Rattle.image.specs.declared.Entry.{Entry}
use Rattle.undoing.specs.Latest.{lock_of, count_of, row_of, may_take_last, IsLowest}

module _ (log : StoredLog) (left : ℕ) (latest : List (List SyncCount)) where
  pub nothing-may : left ≡ 0 → false ≡ may_take_last log left latest
  unfolding may_take_last
  nothing-may nothing = rw (eq-eqb left 0 nothing)

  module _ (has : left ≡ 0 → ⊥) {last : Entry} (is : last ≡ entry_in log (left - 1)) where
    -- the row's counts that are larger than the entry's
    abbrev pub waits_by : Entry → ℕ → Bool
    waits_by entry lock = some_below thread_count (λ thread. ltb entry.value (count_of (row_of latest lock) thread).0)

    abbrev may_by : Entry → Bool
    may_by entry = cond (eqb left 0) false (cond (eqb entry.kind 3) (not (waits_by entry (lock_of entry.place))) true)

    decided : may_by last ≡ may_take_last log left latest
    unfolding may_take_last
    decided = ap may_by is

    other_may : (last.kind ≡ 3 → ⊥) → true ≡ may_by last
    other_may other = rw (ne_eqb left 0 has, ne_eqb last.kind 3 other)

    release_may : last.kind ≡ 3 → {waits : Bool} → waits ≡ waits_by last (lock_of last.place) → not waits ≡ may_by last
    release_may release waits-is = rw (ne_eqb left 0 has, eq-eqb last.kind 3 release) (ap not waits-is)

    pub other-may : (last.kind ≡ 3 → ⊥) → true ≡ may_take_last log left latest
    other-may other = other_may other ∙ decided

    pub release-may : last.kind ≡ 3 → {waits : Bool} (lock : ℕ) → lock ≡ lock_of last.place → waits ≡ waits_by last lock →
        not waits ≡ may_take_last log left latest
    release-may release lock lock-is waits-is = release_may release (waits-is ∙ ap (waits_by last) lock-is) ∙ decided

-- the first thread that a search finds is the lowest
pub lowest-is : (may : ℕ → Bool) (found : Option ℕ) →
    MatchOption found ((thread : ℕ) → 0 ≤ thread → thread < thread_count → may thread ≡ false)
    (λ thread. (0 ≤ thread) × (thread < thread_count) × (may thread ≡ true) × ((lower : ℕ) → 0 ≤ lower → lower < thread → may lower ≡ false)) →
    MatchOption found ((thread : ℕ) → thread < thread_count → may thread ≡ false) (IsLowest may)
lowest-is may None none = λ thread inside. none thread (omega arith) inside
lowest-is may (Some thread) found = record {
  inside = found.1;
  may_be = found.2;
  lower = λ lower below. found.3 lower (omega arith) below;
}
