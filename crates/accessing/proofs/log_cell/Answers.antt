-- `accessing::log_cell` meets its contract: 7, the LSN of the cell's entry in the current region, or what a first LOG leaves.
use mathlib.Core.Path.{◌≡◌, sym, ◌∙◌}
use mathlib.Core.Bool.{false}
use Rattle.undo.specs.Regions.{is_closing}
use Rattle.accessing.proofs.LogLaws.{log-closing, log-again, log-anew}
use Rattle.accessing.proofs.log_cell.Goals as goal
use Rattle.accessing.proofs.log_cell.Goals.{Else-is_releasing}

-- the thread is not closing
open-still : (c : Else-is_releasing) → is_closing c.args.log.now ≡ false
open-still c = sym c.is_releasing.ensures ∙ c.if-is_releasing.false

pub returns-then-is_releasing : goal.returns-then-is_releasing
returns-then-is_releasing c = let a = c.args in
    log-closing a.log.now a.accesses.now a.clock a.cell a.thread a.old (sym c.is_releasing.ensures ∙ c.if-is_releasing.true)

pub returns-in-None : goal.returns-in-None
returns-in-None c = let a = c.args in
    c.log_first.ensures
    ∙ log-anew a.log.now a.accesses.now a.clock a.cell a.thread a.old (open-still (goal.at.returns-in-None c).Else-is_releasing)
    (sym c.in-None.ensures)

pub returns-in-Some : goal.returns-in-Some
returns-in-Some c = let a = c.args in
    rw c.from.ensures
    (log-again a.log.now a.accesses.now a.clock a.cell a.thread a.old (open-still (goal.at.returns-in-Some c).Else-is_releasing)
    _
    (sym c.in-Some.ensures))
