-- The undo order, one choice at a time: which thread's last entry may be taken, which thread is the lowest, and what taking leaves.
use Prim.Native.Nat.{ℕ, zero, suc, ◌+◌, ◌-◌, ◌≤◌, ◌<◌}
use mathlib.Core.Path.{◌≡◌, refl, ap}
use mathlib.Core.Bool.{Bool, true, false, cond, not}
use mathlib.Core.List.{List}
use Rattle.std.specs.Prelude.{Option, None, Some}
use Rattle.std.proofs.lemmas.Option.{none-some, same_Some}
use mathlib.Core.Logic.{by_cases}
use native.Mathlib.Decide.{ℕ_discrete}
use native.Mathlib.Omega.{arith}
use borrow.Author.Tests.{eq-eqb, ne_eqb}
use Rattle.sizes.specs.Sizes.{thread_count}
use Rattle.answer.specs.Lists.{some_below}
use Rattle.image.specs.Stored.{StoredLog, stored_log, entry_kind, entry_place, entry_value}
use Rattle.undoing.specs.Undo.{Undo, left_of, has_later_acquire, may_take_entry, may_take, lowest_from, take_last, take_from, take_next}
use Rattle.undoing.specs.Undo.{take_many}

module _ (logs : List StoredLog) (left : List ℕ) where
  -- some log has a later ACQUIRE of the lock left
  abbrev pub waits_for : ℕ → ℕ → Bool
  waits_for lock count = some_below thread_count (λ thread. has_later_acquire (stored_log logs thread) (left_of left thread) lock count)

  module _ (thread : ℕ) where
    pub may-take-nothing : left_of left thread ≡ 0 → may_take logs left thread ≡ false
    unfolding may_take
    may-take-nothing nothing = rw (eq-eqb (left_of left thread) 0 nothing)

    module _ (has : left_of left thread ≡ 0 → ⊥) where
      -- the thread's last entry
      abbrev last : ℕ
      last = left_of left thread - 1

      pub may-take-other : (entry_kind (stored_log logs thread) last ≡ 3 → ⊥) → may_take logs left thread ≡ true
      unfolding may_take may_take_entry
      may-take-other other =
          rw (ne_eqb (left_of left thread) 0 has, ne_eqb (entry_kind (stored_log logs thread) last) 3 other)

      pub may-take-release : entry_kind (stored_log logs thread) last ≡ 3 →
          may_take logs left thread ≡ not (waits_for (entry_place (stored_log logs thread) last) (entry_value (stored_log logs thread) last))
      unfolding may_take may_take_entry
      may-take-release release =
          rw (ne_eqb (left_of left thread) 0 has, eq-eqb (entry_kind (stored_log logs thread) last) 3 release)

    -- a thread whose last entry may be taken has an entry left
    pub may-take-has : may_take logs left thread ≡ true → left_of left thread ≡ 0 → ⊥
    may-take-has may nothing = let never : ◌≡◌ {A = ℕ} 0 1 = cc (may-take-nothing nothing) in omega arith

  -- a search for the lowest thread, of so many from one on: none may, or the first that may is found
  none_from : (thread count : ℕ) → ((other : ℕ) → thread ≤ other → other < thread + count → may_take logs left other ≡ false) →
      lowest_from logs left thread count ≡ None
  unfolding lowest_from
  none_from thread zero none-may = refl
  none_from thread (suc count) none-may =
      rw (none-may thread (omega arith) (omega arith))
      (none_from (suc thread) count (λ other low high. none-may other (omega arith) (omega arith)))

  found-from : (thread count found : ℕ) → thread ≤ found → found < thread + count → may_take logs left found ≡ true →
      ((other : ℕ) → thread ≤ other → other < found → may_take logs left other ≡ false) → lowest_from logs left thread count ≡ Some found
  unfolding lowest_from
  found-from thread zero found low high may none-lower = absurd (omega arith)
  found-from thread (suc count) found low high may none-lower =
      by_cases (ℕ_discrete thread found)
      (λ same. rw (same, may))
      (λ other.
      rw (none-lower thread (omega arith) (omega arith))
      (found-from (suc thread) count found (omega arith) (omega arith) may (λ lower above below. none-lower lower (omega arith) below)))

  pub lowest-none : (count : ℕ) → ((thread : ℕ) → thread < count → may_take logs left thread ≡ false) → lowest_from logs left 0 count ≡ None
  lowest-none count none-may = none_from 0 count (λ other low high. none-may other (omega arith))

  pub lowest-found : (count found : ℕ) → found < count → may_take logs left found ≡ true →
      ((lower : ℕ) → lower < found → may_take logs left lower ≡ false) → lowest_from logs left 0 count ≡ Some found
  lowest-found count found inside may none-lower =
      found-from 0 count found (omega arith) (omega arith) may (λ other low high. none-lower other high)

  -- the lowest thread found is one of those searched, and its last entry may be taken
  pub lowest-may : (thread count found : ℕ) → lowest_from logs left thread count ≡ Some found →
      (found < thread + count) × (may_take logs left found ≡ true)
  unfolding lowest_from
  lowest-may thread zero found is_found = absurd (none-some found is_found)
  lowest-may thread (suc count) found is_found =
      by_first (may_take logs left thread) refl is_found (lowest-may (suc thread) count found)
    where
      by_first : (first : Bool) → may_take logs left thread ≡ first →
          cond first (Some thread) (lowest_from logs left (suc thread) count) ≡ Some found →
          (lowest_from logs left (suc thread) count ≡ Some found → (found < suc thread + count) × (may_take logs left found ≡ true)) →
          (found < thread + suc count) × (may_take logs left found ≡ true)
      by_first true may is_first later =
          let same = same_Some thread found is_first in
          (omega arith, rw (← same) may)
      by_first false may_not is_later later =
          let rest = later is_later in
          (omega (arith, rest.0), rest.1)

module _ (logs : List StoredLog) (undo : Undo) where
  -- where nothing may be taken, nothing changes any more
  pub take-nothing : lowest_from logs undo.left 0 thread_count ≡ None → (count : ℕ) → take_many count logs undo ≡ undo
  unfolding take_many take_next
  take-nothing nobody zero = refl
  take-nothing nobody (suc count) = rw nobody (take-nothing nobody count)

  -- one turn of n takes the last entry of the lowest thread
  pub take-one : (thread turn n : ℕ) → turn < n → lowest_from logs undo.left 0 thread_count ≡ Some thread →
      take_many (n - turn) logs undo ≡ take_many (n - (turn + 1)) logs (take_last logs undo thread)
  unfolding take_many take_next
  take-one thread turn n more lowest =
      let one_more : n - turn ≡ suc (n - (turn + 1)) = omega arith in
      rw one_more (ap (λ (found : Option ℕ). take_many (n - (turn + 1)) logs (take_from logs undo found)) lowest)
