-- An undo that can be done, so that what the undoing lemma assumes is not empty: thread 0 logs cell 5 and releases lock 0, then thread 1
-- acquires the lock and logs the cell again.
use Prim.Native.Nat.{ℕ, zero, suc, ◌+◌, ◌*◌, ◌<◌}
use mathlib.Core.Path.{◌≡◌, refl, sym, ◌∙◌}
use mathlib.Core.Logic.{inl, inr, by_cases}
use mathlib.Core.List.{List, [], ◌∷◌}
use native.Mathlib.Decide.{ℕ_discrete, dec_lt}
use native.Mathlib.Omega.{arith}
use lib.ListN.{set, replicate}
use lib.Seq.{get_or-set_other}
use Rattle.image.specs.Stored.{StoredLog}
use Rattle.undoing.specs.Undo.{left_of}
use Rattle.orders.proofs.Timed.{Remains, Handed}
use Rattle.atomicity.proofs.Undoable.{Below, Oldest, Undoable}

-- STORE of cell 5 and RELEASE of lock 0 in thread 0, ACQUIRE of lock 0 and STORE of cell 5 in thread 1: kind, place, value, LSN from slot
-- 1 on
abbrev example_logs : List StoredLog
example_logs =
    record { head = 1; stretch = 0 ∷ 0 ∷ 0 ∷ 0 ∷ 1 ∷ 5 ∷ 7 ∷ 1 ∷ 3 ∷ 0 ∷ 0 ∷ 2 ∷ [] } ∷
    record { head = 1; stretch = 0 ∷ 0 ∷ 0 ∷ 0 ∷ 2 ∷ 0 ∷ 1 ∷ 1 ∷ 1 ∷ 5 ∷ 9 ∷ 2 ∷ [] } ∷ []

abbrev example_present : List ℕ
example_present = 2 ∷ 2 ∷ 0 ∷ 0 ∷ []

abbrev example_cells : List ℕ
example_cells = set (replicate 128 0) 5 11

abbrev example_final : List ℕ
example_final = set (replicate 128 0) 5 7

-- what holds of the four entries holds of every present one
each-entry : (P : ℕ → ℕ → Type 0) → P 0 0 → P 0 1 → P 1 0 → P 1 1 → (thread index : ℕ) →
    index < left_of example_present thread → P thread index
each-entry P a b c d zero zero is_left = a
each-entry P a b c d zero (suc zero) is_left = b
each-entry P a b c d zero (suc (suc index)) is_left = absurd (omega arith)
each-entry P a b c d (suc zero) zero is_left = c
each-entry P a b c d (suc zero) (suc zero) is_left = d
each-entry P a b c d (suc zero) (suc (suc index)) is_left = absurd (omega arith)
each-entry P a b c d (suc (suc zero)) index is_left = absurd (omega arith)
each-entry P a b c d (suc (suc (suc zero))) index is_left = absurd (omega arith)
each-entry P a b c d (suc (suc (suc (suc thread)))) index is_left = absurd (omega arith)

-- the time of an entry
abbrev example_time : ℕ → ℕ → ℕ
example_time thread index = 2 * thread + index

-- what the kind of an entry tells: a STORE is of cell 5, the RELEASE is the second of all entries and the ACQUIRE the third
record Told (thread index kind place : ℕ) : Type 0 where
  store : kind ≡ 1 → place ≡ 5
  release : kind ≡ 3 → example_time thread index ≡ 1
  acquire : kind ≡ 2 → example_time thread index ≡ 2

told : (thread index kind place value : ℕ) → Remains example_logs example_present thread index kind place value → Told thread index kind place
told thread index kind place value entry =
    each-entry
    (λ t i. Remains example_logs example_present t i kind place value → Told t i kind place)
    (λ entry. omega arith)
    (λ entry. omega arith)
    (λ entry. omega arith)
    (λ entry. omega arith)
    thread
    index
    entry.is_left
    entry

-- the example's RELEASE stands before its ACQUIRE
example_handed : Handed example_logs example_present 0 1 1 0
example_handed = record {
  lock = 0;
  count = 0;
  later = 1;
  release = record { is_left = omega arith; is_kind = refl; is_place = refl; is_value = refl };
  acquire = record { is_left = omega arith; is_kind = refl; is_place = refl; is_value = refl };
  larger = omega arith;
}

-- the example's first STORE is below every STORE of cell 5
example_below : (thread index value : ℕ) → Remains example_logs example_present thread index 1 5 value →
    Below example_logs example_present 0 0 thread index
example_below thread index value store =
    each-entry
    (λ t i. Remains example_logs example_present t i 1 5 value → Below example_logs example_present 0 0 t i)
    (λ entry. Below.older 0 0 0 (omega arith) (omega arith))
    (λ entry. Below.older 0 0 1 (omega arith) (omega arith))
    (λ entry. Below.joined (Below.older 0 0 1 (omega arith) (omega arith)) (Below.handed 0 1 1 0 example_handed))
    (λ entry.
    Below.joined
    (Below.older 0 0 1 (omega arith) (omega arith))
    (Below.joined (Below.handed 0 1 1 0 example_handed) (Below.older 1 0 1 (omega arith) (omega arith))))
    thread
    index
    store.is_left
    store

oldest : Oldest example_logs example_present example_final 5
oldest = record {
  thread = 0;
  index = 0;
  store = record { is_left = omega arith; is_kind = refl; is_place = refl; is_value = refl };
  below = example_below;
}

pub example_undoable : Undoable example_logs example_present example_cells example_final
example_undoable = record {
  timed = record {
    threads = refl;
    few = λ thread in_range.
        by_cases
        (dec_lt 64 (left_of example_present thread))
        (λ over. absurd (omega (arith, each-entry (λ t i. i < 2) (omega arith) (omega arith) (omega arith) (omega arith) thread 64 over)))
        (λ not_over. omega arith);
    time = example_time;
    older_first = λ thread first second order is_present. omega arith;
    handed_first = λ giver given taker taken pair.
        omega (
          arith,
          (told giver given 3 pair.lock pair.count pair.release).release refl,
          (told taker taken 2 pair.lock pair.later pair.acquire).acquire refl,
        );
  };
  cells_length = refl;
  final_length = refl;
  settled = λ cell in_range.
      by_cases
      (ℕ_discrete cell 5)
      (λ is_five. rw is_five (inr oldest))
      (λ other. inl (record {
        no_store = λ thread index value store. other ((told thread index 1 cell value store).store refl);
        as_wanted = get_or-set_other (replicate 128 0) 5 cell 11 0 other ∙ sym (get_or-set_other (replicate 128 0) 5 cell 7 0 other);
      }));
}
