-- `accesses::Accesses::log_races` meets its contract.
use mathlib.Core.Path.{sym}
use borrow.Author.Rules.{rules}
use Rattle.accesses.proofs.AccessLaws.{log-out}
use Rattle.accesses.proofs.Accesses.log_races.Goals as goal

pub returns-then-place-ge-CELLS : goal.returns-then-place-ge-CELLS
returns-then-place-ge-CELLS c = let a = c.args in
    sym (log-out a.self (search rules) a.clock a.cell c.if-place-ge-CELLS.true)
