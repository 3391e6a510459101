-- `pair::may_take` meets its contract.
use mathlib.Core.Path.{ap}
use mathlib.Core.Bool.{not}
use borrow.Author.Tests.{eq-eqb, ne_eqb}
use Rattle.undoing.specs.Undo.{may_take_entry}
use Rattle.pair.proofs.may_take.Goals as goal

pub returns-then-entry-ne-RELEASE_ENTRY : goal.returns-then-entry-ne-RELEASE_ENTRY
unfolding may_take_entry
returns-then-entry-ne-RELEASE_ENTRY c = rw (ne_eqb _ 3 c.if-entry-ne-RELEASE_ENTRY.true)

pub returns : goal.returns
unfolding may_take_entry
returns c = rw (eq-eqb _ 3 c.if-entry-ne-RELEASE_ENTRY.false) (ap not c.waits.ensures)
