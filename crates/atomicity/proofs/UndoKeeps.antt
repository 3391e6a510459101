-- What every lawful take of the undo keeps: what is left is closed downward, and a cell of which no STORE is left is as wanted.
use Prim.Native.Nat.{ℕ, ◌<◌}
use mathlib.Core.Path.{◌≡◌, ◌∙◌, subst₂}
use mathlib.Core.Bool.{true}
use mathlib.Core.Logic.{◌⊎◌, inl, inr, ⊎_elim, by_cases}
use mathlib.Core.List.{List}
use native.Mathlib.Decide.{ℕ_discrete}
use native.Mathlib.Omega.{arith}
use lib.ListN.{length, get_or}
use Rattle.image.specs.Stored.{StoredLog, stored_log, entry_kind, entry_place}
use Rattle.undoing.specs.Undo.{Undo, left_of, may_take, take_last}
use Rattle.orders.proofs.Timed.{Remains, Handed, Partway}
use Rattle.orders.proofs.UndoSteps.{last_of, moved, handed_moved, Takeable, may_take-takeable, Last, last_says, Taken, take_last-taken}
use Rattle.orders.proofs.UndoSteps.{taken-within, take-partway, left-or-last, remains-or-last}
use Rattle.atomicity.proofs.Undoable.{Below, Oldest, Undoable}

-- a STORE of the cell is left
pub record StoreLeft (logs : List StoredLog) (left : List ℕ) (cell : ℕ) : Type 0 where
  pub thread : ℕ
  pub index : ℕ
  pub value : ℕ
  pub store : Remains logs left thread index 1 cell value

-- a STORE of the cell is left, or the cell is as wanted
abbrev pub Done : List StoredLog → List ℕ → Undo → ℕ → Type 0
Done logs final undo cell = StoreLeft logs undo.left cell ⊎ (get_or undo.cells cell 0 ≡ get_or final cell 0)

-- what holds of every undo that lawful takes lead to
pub record Midway (logs : List StoredLog) (present final : List ℕ) (undo : Undo) : Type 0 where
  pub partway : Partway present undo
  pub closed : (giver given taker taken : ℕ) → Handed logs present giver given taker taken →
      taken < left_of undo.left taker → given < left_of undo.left giver
  pub cells_length : length undo.cells ≡ 128
  pub done : (cell : ℕ) → cell < 128 → Done logs final undo cell

module _ (logs : List StoredLog) (present cells final : List ℕ) (undoable : Undoable logs present cells final) where
  -- before the first take every present entry is left
  pub start-midway : Midway logs present final (record { left = present; cells = cells })
  start-midway = record {
    partway = record { threads = undoable.timed.threads; within = λ thread. omega arith };
    closed = λ giver given taker taken pair is_left. pair.release.is_left;
    cells_length = undoable.cells_length;
    done = λ cell in_range.
        ⊎_elim
        (λ untouched. inr untouched.as_wanted)
        (λ oldest. inl (record { thread = oldest.thread; index = oldest.index; value = get_or final cell 0; store = oldest.store }))
        (undoable.settled cell in_range);
  }

  module _ (undo : Undo) (midway : Midway logs present final undo) where
    -- all that is below an entry left is left
    below_left : {a i b j : ℕ} → Below logs present a i b j → j < left_of undo.left b → i < left_of undo.left a
    below_left (Below.older thread first second order is_present) is_left = omega arith
    below_left (Below.handed giver given taker taken pair) is_left = midway.closed giver given taker taken pair is_left
    below_left (Below.joined one other) is_left = below_left one (below_left other is_left)

    module _ (thread : ℕ) (takeable : Takeable logs undo.left thread) (after : Undo) (take : Taken logs undo thread after) where
      closed-kept : (giver given taker taken : ℕ) → Handed logs present giver given taker taken →
          taken < left_of after.left taker → given < left_of after.left giver
      closed-kept giver given taker taken pair is_left =
          let acquire_left : taken < left_of undo.left taker = omega (arith, taken-within logs undo thread after take taker) in
          let release_left = midway.closed giver given taker taken pair acquire_left in
          let both : Handed logs undo.left giver given taker taken = handed_moved pair release_left acquire_left in
          ⊎_elim
          (λ still. still)
          (λ last.
          absurd
          (takeable.free taker taken (subst₂ (λ a i. Handed logs undo.left a i taker taken) last.0 last.1 both)))
          (left-or-last logs undo thread after take giver given release_left)

      -- if the entry taken is a STORE of the cell, the oldest one is still left or is the one taken
      done-store : (cell value : ℕ) → cell < 128 → Last logs undo thread 1 cell value → Done logs final after cell
      done-store cell value in_range store =
          let stored : Remains logs present thread (last_of undo.left thread) 1 cell value =
          moved store (omega (arith, store.is_left, midway.partway.within thread)) in
          ⊎_elim
          (λ untouched. absurd (untouched.no_store thread (last_of undo.left thread) value stored))
          (λ oldest. by-oldest oldest (below_left (oldest.below thread (last_of undo.left thread) value stored) store.is_left))
          (undoable.settled cell in_range)
        where
          by-oldest : (oldest : Oldest logs present final cell) → oldest.index < left_of undo.left oldest.thread →
              Done logs final after cell
          by-oldest oldest is_left =
              ⊎_elim
              (λ still. inl (record { thread = oldest.thread; index = oldest.index; value = get_or final cell 0; store = still }))
              (λ last. inr (take.put cell (get_or final cell 0) (omega arith) last))
              (remains-or-last logs undo thread after take (moved oldest.store is_left))

      -- if the entry taken is no STORE of the cell, a STORE that was left is left, and a cell that was as wanted is as wanted
      done-other : (cell : ℕ) → cell < 128 → ((value : ℕ) → Last logs undo thread 1 cell value → ⊥) → Done logs final after cell
      done-other cell in_range no_store = ⊎_elim by_left (λ as_wanted. inr (take.kept cell no_store ∙ as_wanted)) (midway.done cell in_range)
        where
          by_left : StoreLeft logs undo.left cell → Done logs final after cell
          by_left found =
              ⊎_elim
              (λ still. inl (record { thread = found.thread; index = found.index; value = found.value; store = still }))
              (λ last. absurd (no_store found.value last))
              (remains-or-last logs undo thread after take found.store)

      done-kept : (cell : ℕ) → cell < 128 → Done logs final after cell
      done-kept cell in_range =
          by_cases
          (ℕ_discrete (entry_kind (stored_log logs thread) (last_of undo.left thread)) 1)
          (λ is_store. by_cases (ℕ_discrete (entry_place (stored_log logs thread) (last_of undo.left thread)) cell)
          (of-cell is_store) of_other)
          (λ other. done-other cell in_range (λ value store. other store.is_kind))
        where
          of-cell : entry_kind (stored_log logs thread) (last_of undo.left thread) ≡ 1 →
              entry_place (stored_log logs thread) (last_of undo.left thread) ≡ cell → Done logs final after cell
          of-cell is_store is_cell = done-store cell _ in_range (last_says logs undo thread 1 cell takeable.has_entry is_store is_cell)

          of_other : ¬ (entry_place (stored_log logs thread) (last_of undo.left thread) ≡ cell) → Done logs final after cell
          of_other other = done-other cell in_range (λ value store. other store.is_place)

      -- a lawful take keeps all that holds of an undo midway
      take-midway : Midway logs present final after
      take-midway = record {
        partway = take-partway logs undo thread after take present midway.partway;
        closed = closed-kept;
        cells_length = take.cells_length ∙ midway.cells_length;
        done = done-kept;
      }

  -- so does the take of a thread's last entry that `may_take` allows
  pub may-midway : (undo : Undo) → Midway logs present final undo → (thread : ℕ) → may_take logs undo.left thread ≡ true →
      Midway logs present final (take_last logs undo thread)
  may-midway undo midway thread may =
      let takeable = may_take-takeable logs undo.left midway.partway.threads thread may in
      take-midway
      undo
      midway
      thread
      takeable
      (take_last logs undo thread)
      (take_last-taken logs undo thread midway.partway.threads takeable.has_entry)
