-- Laws of locks: a count that can grow does.
use Prim.Native.Nat.{◌<◌}
use mathlib.Core.Path.{◌≡◌, refl}
use mathlib.Core.List.{List}
use lib.ListN.{get_or}
use borrow.Author.Tests.{lt-ltb}
use Rattle.event.specs.Events.{place_of}
use Rattle.event.specs.declared.Event.{Event}
use Rattle.event.specs.declared.Event.TheVariants.{Empty, Store, Acquire, Release}
use Rattle.locks.specs.Locks.{no_lock, largest, freed_of, free_of, pruned_locks, counted_locks}
use Rattle.locks.specs.declared.Lock.{Lock}

-- a RELEASE adds 1 to a count that can grow
pub free_grows : (lock : Lock) → lock.count.0 < largest → free_of lock ≡ freed_of lock
free_grows lock below = rw (lt-ltb lock.count.0 largest below)

-- a PRUNE adds 1 to the number of a lock's pruned regions, where that can grow
pub counted-grows : (locks : List Lock) (event : Event) → (get_or locks (place_of event) no_lock).pruned.0 < largest
    → counted_locks locks event ≡ pruned_locks locks event
counted-grows locks Empty below = refl
counted-grows locks (Store cell old) below = refl
counted-grows locks (Acquire lock count) below = refl
counted-grows locks (Release lock count) below = rw (lt-ltb (get_or locks lock no_lock).pruned.0 largest below)
