-- "A lock has a holder or none and a count, at first 0." Beside them stands how many pruned regions end in a RELEASE of the lock.
use Rattle.std.specs.Prelude.{None, Option, Some, ℕ, ◌+◌, Bool, true, false, cond, List, eqb, ltb, get_or, set}
use Rattle.event.specs.Events.{sync_count}
use Rattle.event.specs.declared.Event.{Event}
use Rattle.event.specs.declared.Event.TheVariants.{Empty, Store, Acquire, Release}
use Rattle.event.specs.declared.SyncCount.{SyncCount}
use Rattle.locks.specs.declared.Lock.{Lock}

-- a lock at the start; it stands past the end of an array too, where no step whose fields are in range reads
abbrev pub no_lock : Lock
no_lock = record { holder = None; count = sync_count 0; pruned = sync_count 0 }

-- the lock is held by anyone, in document 01's words
abbrev pub is_held : Option ℕ → Bool
is_held None = false
is_held (Some holder) = true

-- the lock is held by this thread
abbrev pub is_held_by : Option ℕ → ℕ → Bool
is_held_by None thread = false
is_held_by (Some holder) thread = eqb holder thread

-- the lock with this thread as its holder
abbrev pub taken_by : Lock → ℕ → Lock
taken_by lock thread = record { holder = Some thread; count = lock.count; pruned = lock.pruned }

-- a lock that is released: "frees it, adds 1 to the count"
abbrev pub freed_of : Lock → Lock
freed_of lock = record { holder = None; count = sync_count (lock.count.0 + 1); pruned = lock.pruned }

-- a lock once one more region that ends in a RELEASE of it is pruned
abbrev pub one_pruned : Lock → Lock
one_pruned lock = record { holder = lock.holder; count = lock.count; pruned = sync_count (lock.pruned.0 + 1) }

-- where the pruned region's last entry is a RELEASE, it counts for that lock
abbrev pub pruned_locks : List Lock → Event → List Lock
pruned_locks locks Empty = locks
pruned_locks locks (Store cell old) = locks
pruned_locks locks (Acquire lock count) = locks
pruned_locks locks (Release lock count) =
    set locks lock (one_pruned (get_or locks lock no_lock))

-- the largest number of 64 bits, which a lock count stands in
abbrev pub largest : ℕ
largest = 18446744073709551615

-- a count plus 1; a count that cannot grow stays. (None gets there by steps: each RELEASE takes one of 4,000,000 LSNs.)
abbrev pub one_more : SyncCount → SyncCount
one_more count = cond (ltb count.0 largest) (sync_count (count.0 + 1)) count

-- RELEASE and PRUNE on any lock
abbrev pub free_of : Lock → Lock
free_of lock = record { holder = None; count = one_more lock.count; pruned = lock.pruned }

abbrev pub count_of : Lock → Lock
count_of lock = record { holder = lock.holder; count = lock.count; pruned = one_more lock.pruned }

abbrev pub counted_locks : List Lock → Event → List Lock
counted_locks locks Empty = locks
counted_locks locks (Store cell old) = locks
counted_locks locks (Acquire lock count) = locks
counted_locks locks (Release lock count) =
    set locks lock (count_of (get_or locks lock no_lock))
