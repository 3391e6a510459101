-- Whether a pair of a claimed undo order may be taken, so many entries of each thread being left. What is quoted is document 02's.
use Rattle.std.specs.Prelude.{ℕ, ◌+◌, ◌-◌, Bool, ◌&&◌, List, eqb, ltb}
use Rattle.sizes.specs.Sizes.{thread_count}
use Rattle.image.specs.Stored.{StoredLog, stored_log}
use Rattle.undoing.specs.Undo.{left_of, may_take}
use Rattle.orders.specs.Orders.{Name}

-- an entry may be taken: it is "its thread's last remaining present one", and no "RELEASE that may not be taken yet"
unfoldable pub may_take_name : List StoredLog → List ℕ → Name → Bool
may_take_name logs left entry =
    let thread = entry.thread in
    let last = (stored_log logs thread).head + (left_of left thread - 1) in
    ltb thread thread_count && eqb entry.lsn last && may_take logs left thread
