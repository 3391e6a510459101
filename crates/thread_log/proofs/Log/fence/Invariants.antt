-- The invariant of `thread_log::Log::fence`'s loop: the entries of `done` LSNs after the last durable one are persisted, and `slot` is that of
-- the last of these LSNs, or of the durable one.
use Prim.Native.Nat.{◌+◌}
use mathlib.Core.Path.{◌≡◌}
use Rattle.ring.specs.Ring.{slot_of}
use Rattle.thread_log.specs.Entries.{persist_from}
use Rattle.thread_log.proofs.Log.fence.Given as goal

abbrev pub invariant-loop-done : goal.invariant-loop-done
invariant-loop-done l = let log = l.initial.self in
    let persisted = persist_from log.cached log.persisted (log.tail.durable.0 + 1) l.done in
    (l.slot ≡ slot_of (log.tail.durable.0 + l.done))
    × (l.self ≡ record { cached = log.cached; persisted = persisted; head = log.head; tail = log.tail })
