-- What an entry of an undo log means: a cell's content before a store, or a lock's count.
use Rattle.std.specs.Prelude.{None, Option, Some}
use Rattle.std.specs.Prelude.{ℕ, cond, eqb}
use Rattle.entry.specs.declared.Payload.{Payload}
use Rattle.event.specs.declared.Event.{Event}
use Rattle.event.specs.declared.Event.TheVariants.{Empty, Store, Acquire, Release}
use Rattle.event.specs.declared.SyncCount.{SyncCount}

-- the lock count of a number
abbrev pub sync_count : ℕ → SyncCount
sync_count number = record { 0 = number }

-- "a kind (1 STORE, 2 ACQUIRE, 3 RELEASE)", and 0 of an untouched slot
abbrev pub kind_of : Event → ℕ
kind_of Empty = 0
kind_of (Store cell old) = 1
kind_of (Acquire lock count) = 2
kind_of (Release lock count) = 3

-- "a place (cell or lock)"
abbrev pub place_of : Event → ℕ
place_of Empty = 0
place_of (Store cell old) = cell
place_of (Acquire lock count) = lock
place_of (Release lock count) = lock

-- "a value (old content, or lock count)"
abbrev pub value_of : Event → ℕ
value_of Empty = 0
value_of (Store cell old) = old
value_of (Acquire lock count) = count.0
value_of (Release lock count) = count.0

-- how an event is written in an entry
abbrev pub payload_of : Event → Payload
payload_of event = record { kind = kind_of event; place = place_of event; value = value_of event }

-- how an entry is read as an event
unfoldable pub event_of : Payload → Event
event_of payload =
    cond (eqb payload.kind 1) (Store payload.place payload.value)
    (cond (eqb payload.kind 2) (Acquire payload.place (sync_count payload.value))
    (cond (eqb payload.kind 3) (Release payload.place (sync_count payload.value)) Empty))

-- the lock that an entry begins to release: "LOGREL lock: appends RELEASE with the count; the thread is closing"
abbrev pub closes_of : Event → Option ℕ
closes_of Empty = None
closes_of (Store cell old) = None
closes_of (Acquire lock count) = None
closes_of (Release lock count) = Some lock
