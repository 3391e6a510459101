-- `batch::log_each` meets its contract, by the loop's invariant.
use mathlib.Core.Path.{sym, ◌∙◌}
use native.Mathlib.Omega.{arith}
use Rattle.std.proofs.lemmas.Result.{err_from_is_err_and}
use Rattle.batch.proofs.BatchLaws.{each-taken, each-refused, each-end}
use Rattle.batch.proofs.log_each.Goals as goal

pub returns-in_err-stepped : goal.returns-in_err-stepped
returns-in_err-stepped c =
    let p = err_from_is_err_and c.from_residual.result c.from_residual.ensures.1 in
    let at = c.loop-cell in
    rw (p.1, p.2)
    (sym
    (at.invariant.1
    ∙ each-refused at.machine c.args.thread c.args.cells.now at.cell-index at.count c.loop-cell-test.true c.log-stepped.ensures c.in_err-stepped.was))

pub loop-cell-preserved : goal.loop-cell-preserved
loop-cell-preserved c = let at = c.loop-cell in (
  omega (arith, at.invariant.0),
  at.invariant.1
      ∙ each-taken at.machine c.args.thread c.args.cells.now at.cell-index at.count c.loop-cell-test.true c.log-stepped.ensures c.in_ok-stepped.was,
)

pub returns : goal.returns
returns c = let at = c.loop-cell in
    sym (at.invariant.1 ∙ each-end at.machine c.args.thread c.args.cells.now at.cell-index at.count c.loop-cell-test.false)
