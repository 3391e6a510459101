-- The invariant of `cuts::not_zero`'s loop: what is counted and what is left to count are all.
use mathlib.Core.Bool.{not}
use lib.Dec.{eqb}
use Rattle.choices.proofs.ChoiceLaws.{Counted}
use Rattle.cuts.proofs.not_zero.Given as goal

abbrev pub invariant-loop-content : goal.invariant-loop-content
invariant-loop-content l = Counted (λ content. not (eqb content 0)) l.cells l.content-index l.count
