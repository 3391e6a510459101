-- `choices::count_alike` meets its contract. The loop's invariant: those counted and those left to count are all choices that are alike.
use lib.ListN.{take}
use Rattle.choices.specs.Choices.{choices_of}
use Rattle.choices.specs.Counting.{marks_of, is_alike}
use Rattle.choices.proofs.ChoiceLaws.{Counted}
use Rattle.choices.proofs.count_alike.Given as goal

abbrev pub invariant-loop-choice : goal.invariant-loop-choice
invariant-loop-choice l = Counted (λ lines. is_alike l.seen l.kept (marks_of lines)) (choices_of (take l.tried.count l.tried.lines)) l.choice l.alike
