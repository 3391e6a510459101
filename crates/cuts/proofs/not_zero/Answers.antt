-- `cuts::not_zero` meets its contract.
use Prim.Native.Nat.{ℕ, suc, ◌+◌}
use mathlib.Core.Path.{◌≡◌, refl, ap, sym, ◌∙◌}
use mathlib.Core.Bool.{Bool, true, false, cond, not}
use mathlib.Core.List.{List, [], ◌∷◌}
use native.Mathlib.Omega.{arith}
use lib.Dec.{eqb}
use borrow.Author.Rules.{rules}
use borrow.Author.Tests.{eq-eqb, ne_eqb}
use Rattle.choices.specs.Counting.{count_if}
use Rattle.choices.proofs.ChoiceLaws.{counts-more, counts_same, counts_end}
use Rattle.cuts.specs.Cuts.{not_zero}
use Rattle.cuts.proofs.not_zero.Goals as goal
use Rattle.cuts.proofs.not_zero.Goals.{else-content-ne0, then-content-ne0}

-- the cells that are not 0, as a count
not-zero-counts : (cells : List ℕ) → not_zero cells ≡ count_if (λ content. not (eqb content 0)) cells
unfolding not_zero count_if
not-zero-counts [] = refl
not-zero-counts (content ∷ cells) = rw (not-zero-counts cells) (either (eqb content 0) (count_if (λ one. not (eqb one 0)) cells))
  where
    either : (is : Bool) (rest : ℕ) → cond is rest (suc rest) ≡ cond (not is) 1 0 + rest
    either true rest = omega arith
    either false rest = omega arith

pub loop-content-preserved : goal.loop-content-preserved
loop-content-preserved c = let l = c.loop-content in
    elim c.if-content-ne0.branch [ then-content-ne0 w ↦ rw w.count-is (counts-more l.invariant 0 (search rules) (ap not (ne_eqb _ _ w.if-content-ne0.true))) | else-content-ne0 w ↦ rw w.count-is (counts_same l.invariant 0 (search rules) (ap not (eq-eqb _ _ w.if-content-ne0.false))) ]

pub returns : goal.returns
returns c = counts_end c.loop-content.invariant (search rules) ∙ sym (not-zero-counts c.args.cells.now)
