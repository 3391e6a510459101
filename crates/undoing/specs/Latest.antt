-- What the code remembers of the ACQUIREs that are left, so that a RELEASE is tested without a walk through the logs, and an entry that
-- is taken is forgotten by an assignment.
use Rattle.std.specs.Prelude.{ℕ, zero, suc, ◌+◌, ◌-◌, ◌*◌, ◌%◌, ◌≤◌, ◌<◌, ◌≡◌, Bool, true, false, cond, not, ◌&&◌, List, [], length, get_or, eqb, ltb}
use Rattle.sizes.specs.Sizes.{thread_count, lock_count}
use Rattle.answer.specs.Lists.{some_below}
use Rattle.ring.specs.Ring.{slot_count}
use Rattle.event.specs.Events.{sync_count}
use Rattle.event.specs.declared.SyncCount.{SyncCount}
use Rattle.image.specs.Stored.{StoredLog, present_in, entry_kind, entry_place, entry_value}
use Rattle.image.specs.Reading.{log_in, entry_in, Readable}
use Rattle.image.specs.declared.Entry.{Entry}
use Rattle.undoing.specs.Undo.{left_of}

-- the largest count of an ACQUIRE of the lock among so many entries of a log, and 0 where there is none
unfoldable pub latest_acquire : StoredLog → ℕ → ℕ → ℕ
latest_acquire log zero lock = 0
latest_acquire log (suc left) lock =
    let earlier = latest_acquire log left lock in
    let value = entry_value log left in
    cond (eqb (entry_kind log left) 2 && eqb (entry_place log left) lock && ltb earlier value) value earlier

-- the lock that an entry of a lock is of; some lock for an entry of a cell
abbrev pub lock_of : ℕ → ℕ
lock_of place = place % lock_count

-- a thread's count in a lock's row of four
abbrev pub count_of : List SyncCount → ℕ → SyncCount
count_of row thread = get_or row thread (sync_count 0)

-- a lock's row of the table
abbrev pub row_of : List (List SyncCount) → ℕ → List SyncCount
row_of latest lock = get_or latest lock []

-- what was remembered before the entry that has so many before it in its thread's log
abbrev pub earlier_of : List SyncCount → ℕ → ℕ → SyncCount
earlier_of earlier thread index = get_or earlier (thread * slot_count + index) (sync_count 0)

-- a count, or an ACQUIRE's where that is larger
abbrev pub later_of : SyncCount → Entry → SyncCount
later_of count entry = sync_count (cond (eqb entry.kind 2 && ltb count.0 entry.value) entry.value count.0)

-- the last of so many entries may be taken: a RELEASE waits for ACQUIREs of its lock with a larger count, and what is not there can't be
-- taken
unfoldable pub may_take_last : StoredLog → ℕ → List (List SyncCount) → Bool
may_take_last log left latest =
    let last = entry_in log (left - 1) in
    let waits = some_below thread_count (λ thread. ltb last.value (count_of (row_of latest (lock_of last.place)) thread).0) in
    cond (eqb left 0) false (cond (eqb last.kind 3) (not waits) true)

-- the lowest thread whose last entry may be taken
pub record IsLowest (may : ℕ → Bool) (found : ℕ) : Type 0 where
  pub inside : found < thread_count
  pub may_be : may found ≡ true
  pub lower : (thread : ℕ) → thread < found → may thread ≡ false

-- of so many entries of each thread's log, the latest ACQUIREs are remembered, and before each entry those before it
pub record Remembers (image : List ℕ) (seen : ℕ → ℕ) (latest : List (List SyncCount)) (earlier : List SyncCount) : Type 0 where
  pub locks : length latest ≡ lock_count
  pub rows : (lock : ℕ) → lock < lock_count → length (row_of latest lock) ≡ thread_count
  pub places : length earlier ≡ thread_count * slot_count
  pub few : (thread : ℕ) → thread < thread_count → seen thread ≤ slot_count
  pub latest_is : (thread lock : ℕ) → thread < thread_count → lock < lock_count →
      (count_of (row_of latest lock) thread).0 ≡ latest_acquire (log_in image thread) (seen thread) lock
  pub earlier_is : (thread index : ℕ) → thread < thread_count → index < seen thread →
      (earlier_of earlier thread index).0 ≡ latest_acquire (log_in image thread) index (lock_of (entry_place (log_in image thread) index))

-- the counts are of present entries, and the ACQUIREs among those that are left are remembered
pub record Tracked (image left : List ℕ) (latest : List (List SyncCount)) (earlier : List SyncCount) : Type 0 where
  pub readable : Readable image
  pub within : (thread : ℕ) → thread < thread_count → left_of left thread ≤ present_in (log_in image thread)
  pub remembers : Remembers image (left_of left) latest earlier
