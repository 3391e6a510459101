-- `choices::chosen` meets its contract. The loop's invariant: with what is left of the choice, the marks are those of the whole.
use lib.ListN.{take}
use Rattle.choices.proofs.ChoiceLaws.{Marking}
use Rattle.choices.proofs.chosen.Given as goal

abbrev pub invariant-loop-line : goal.invariant-loop-line
invariant-loop-line l = Marking (take l.fn.tried.count l.fn.tried.lines) l.choice l.marks l.left l.line-index
