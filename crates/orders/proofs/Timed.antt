-- Entries that are left, and times of them that an undo can go by: where each entry has one, document 01's order takes them all.
use Prim.Native.Nat.{ℕ, ◌≤◌, ◌<◌}
use mathlib.Core.Path.{◌≡◌}
use mathlib.Core.List.{List}
use lib.ListN.{length}
use Rattle.sizes.specs.Sizes.{thread_count}
use Rattle.ring.specs.Ring.{slot_count}
use Rattle.image.specs.Stored.{StoredLog, stored_log, entry_kind, entry_place, entry_value}
use Rattle.undoing.specs.Undo.{Undo, left_of}

-- the thread's entry at this index is left, and says this; with the present entries for what is left, it is present
pub record Remains (logs : List StoredLog) (left : List ℕ) (thread index kind place value : ℕ) : Type 0 where
  pub is_left : index < left_of left thread
  pub is_kind : entry_kind (stored_log logs thread) index ≡ kind
  pub is_place : entry_place (stored_log logs thread) index ≡ place
  pub is_value : entry_value (stored_log logs thread) index ≡ value

-- a RELEASE of a lock, and an ACQUIRE of it with a larger count
pub record Handed (logs : List StoredLog) (left : List ℕ) (giver given taker taken : ℕ) : Type 0 where
  pub lock : ℕ
  pub count : ℕ
  pub later : ℕ
  pub release : Remains logs left giver given 3 lock count
  pub acquire : Remains logs left taker taken 2 lock later
  pub larger : count < later

-- present entries that have times: in a thread they rise with the entries, and a RELEASE's is before that of an ACQUIRE of the lock with a
-- larger count. In a machine's image an entry's time is when it was made, in an order how many the list names from it on
pub record Timed (logs : List StoredLog) (present : List ℕ) : Type 0 where
  -- four threads, each with at most 64 entries
  pub threads : length present ≡ thread_count
  pub few : (thread : ℕ) → thread < thread_count → left_of present thread ≤ slot_count
  pub time : ℕ → ℕ → ℕ
  pub older_first : (thread first second : ℕ) → first < second → second < left_of present thread → time thread first < time thread second
  pub handed_first : (giver given taker taken : ℕ) → Handed logs present giver given taker taken → time giver given < time taker taken

-- an undo that has no more entries left than are present
pub record Partway (present : List ℕ) (undo : Undo) : Type 0 where
  pub threads : length undo.left ≡ thread_count
  pub within : (thread : ℕ) → left_of undo.left thread ≤ left_of present thread
