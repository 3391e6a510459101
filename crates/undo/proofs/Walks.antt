-- The search for a cell's entry, a walk over the live entries: it looks at the cached entries and the head alone.
use Rattle.std.specs.Prelude.{Some}
use Prim.Native.Nat.{ℕ, zero, suc, ◌+◌, ◌-◌, ◌<◌}
use mathlib.Core.Path.{◌≡◌, refl}
use mathlib.Core.List.{List, []}
use native.Mathlib.Omega.{arith}
use Rattle.ring.specs.Ring.{lsn}
use Rattle.tail.specs.Tail.{fresh_tail}
use Rattle.undo.specs.Entering.{live_event}
use Rattle.undo.specs.Regions.{searched, logged_among}
use Rattle.ring.specs.declared.Lsn.{Lsn}
use Rattle.entry.specs.declared.Entry.{Entry}
use Rattle.thread_log.specs.declared.Log.{Log}

-- a log with these cached entries and this head
abbrev pub seen : List Entry → Lsn → Log
seen cached head = record { cached = cached; persisted = []; head = head; tail = fresh_tail }

pub logged_seen : (log : Log) (cell count : ℕ) → logged_among log cell count ≡ logged_among (seen log.cached log.head) cell count
unfolding logged_among
logged_seen log cell zero = refl
logged_seen log cell (suc count) = rw (logged_seen log cell count)

-- a turn of the search for a cell's entry
pub logged_turn : (log : Log) (cell left : ℕ) → 0 < left
    → logged_among log cell left ≡
    searched (live_event log (left - 1)) cell (Some (lsn (log.head.0 + (left - 1)))) (logged_among log cell (left - 1))
unfolding logged_among
logged_turn log cell zero some = absurd (omega arith)
logged_turn log cell (suc left) some = let last : suc left - 1 ≡ left = omega arith in rw last
