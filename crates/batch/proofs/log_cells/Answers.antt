-- `batch::log_cells` meets its contract.
use native.Mathlib.Omega.{arith}
use Rattle.batch.proofs.BatchLaws.{too_long, short}
use Rattle.batch.proofs.log_cells.Goals as goal
use Rattle.batch.proofs.log_cells.Goals.{then-cells-gt-MOST_CELLS, else-cells-gt-MOST_CELLS}

pub returns : goal.returns
returns c = let a = c.args in
    elim c.if-cells-gt-MOST_CELLS.branch [
      | then-cells-gt-MOST_CELLS w ↦ rw (w.machine-is, w.count-is, w.answer-is)
          (too_long a.machine a.thread a.cells.now w.if-cells-gt-MOST_CELLS.true)
      | else-cells-gt-MOST_CELLS w ↦ rw (w.machine-is, w.count-is, w.answer-is)
          (short a.machine a.thread a.cells.now (omega (arith, w.if-cells-gt-MOST_CELLS.false)) w.log_each-answer.ensures)
    ]
