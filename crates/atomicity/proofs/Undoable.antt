-- What an undo stands on: the logs of an image, their present entries and the persisted cells, and what is asked of them so that every
-- lawful undo leads to the cells wanted.
use Prim.Native.Nat.{ℕ, ◌≤◌, ◌<◌}
use mathlib.Core.Path.{◌≡◌}
use mathlib.Core.Logic.{◌⊎◌}
use mathlib.Core.List.{List}
use lib.ListN.{length, get_or}
use Rattle.image.specs.Stored.{StoredLog}
use Rattle.undoing.specs.Undo.{left_of}
use Rattle.orders.proofs.Timed.{Remains, Handed, Timed}

-- the order on present entries: older in one thread or the same, a RELEASE before an ACQUIRE of the lock with a larger count, and all
-- that follows from these two
pub data Below (logs : List StoredLog) (present : List ℕ) : ℕ → ℕ → ℕ → ℕ → Type 0 where
  older : (thread first second : ℕ) → first ≤ second → second < left_of present thread → Below logs present thread first thread second
  handed : (giver given taker taken : ℕ) → Handed logs present giver given taker taken → Below logs present giver given taker taken
  joined : {a i b j c k : ℕ} → Below logs present a i b j → Below logs present b j c k → Below logs present a i c k

-- no present entry is a STORE of the cell, and the cell is as wanted
pub record Untouched (logs : List StoredLog) (present cells final : List ℕ) (cell : ℕ) : Type 0 where
  pub no_store : (thread index value : ℕ) → Remains logs present thread index 1 cell value → ⊥
  pub as_wanted : get_or cells cell 0 ≡ get_or final cell 0

-- a present STORE of the cell is below every other one, and its value is the content wanted
pub record Oldest (logs : List StoredLog) (present final : List ℕ) (cell : ℕ) : Type 0 where
  pub thread : ℕ
  pub index : ℕ
  pub store : Remains logs present thread index 1 cell (get_or final cell 0)
  pub below : (other later value : ℕ) → Remains logs present other later 1 cell value → Below logs present thread index other later

-- what is asked of logs, present entries and cells so that undoing leads to the final cells
pub record Undoable (logs : List StoredLog) (present cells final : List ℕ) : Type 0 where
  -- the time at which each entry was made
  pub timed : Timed logs present
  pub cells_length : length cells ≡ 128
  pub final_length : length final ≡ 128
  pub settled : (cell : ℕ) → cell < 128 → Untouched logs present cells final cell ⊎ Oldest logs present final cell
