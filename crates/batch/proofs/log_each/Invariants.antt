-- The invariant of `batch::log_each`'s loop: every cell that was tried is accepted, and the rest of the list is left.
use Prim.Native.Nat.{◌+◌}
use mathlib.Core.Path.{◌≡◌}
use lib.ListN.{drop}
use Rattle.batch.specs.Batch.{many_before, log_each}
use Rattle.batch.proofs.log_each.Given as goal

abbrev pub invariant-loop-cell : goal.invariant-loop-cell
invariant-loop-cell l = (l.count ≡ l.initial.count + l.cell-index) ×
    (many_before l.initial.count (log_each l.initial.machine l.thread l.cells) ≡
    many_before l.count (log_each l.machine l.thread (drop l.cell-index l.cells)))
