-- `machine::Machine::start` meets its contract.
use borrow.Author.Tests.{eq-eqb, ne_eqb}
use Rattle.machine.specs.Holds.{start_of}
use Rattle.machine.proofs.Machine.start.Goals as goal

pub returns-then-words-ne-CELLS : goal.returns-then-words-ne-CELLS
unfolding start_of
returns-then-words-ne-CELLS c = rw (ne_eqb _ 128 c.if-words-ne-CELLS.true, c.fresh.ensures)

pub returns : goal.returns
unfolding start_of
returns c = rw (eq-eqb _ 128 c.if-words-ne-CELLS.false, c.fresh-2.ensures, c.copy_from_slice.ensures.after)
