-- `choices::differing_lines` meets its contract. The loop's invariant: with those from `line` on, the lines are the first eight of all.
use Rattle.choices.specs.Choices.{differs_in}
use Rattle.choices.proofs.ChoiceLaws.{Gathered}
use Rattle.choices.proofs.differing_lines.Given as goal

abbrev pub invariant-loop-line : goal.invariant-loop-line
invariant-loop-line l = Gathered (differs_in l.seen l.kept) l.lines l.count l.line
