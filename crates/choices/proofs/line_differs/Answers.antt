-- `choices::line_differs` meets its contract: two parts of equal length are the same where no cell of the line differs.
use Prim.Native.Nat.{ℕ, ◌+◌, ◌*◌, ◌-◌}
use native.Mathlib.Omega.{arith}
use mathlib.Core.Path.{◌≡◌, refl, ◌∙◌}
use mathlib.Core.Bool.{Bool, not}
use lib.ListN.{take, drop}
use lib.Dec.{eqb}
use borrow.Author.Rules.{rules}
use Rattle.std.specs.Cmp.Lexicographic.{pointwise}
use Rattle.std.proofs.lemmas.Bool.Decides.{Decides-eqb}
use Rattle.std.proofs.lemmas.Slice.Eq.{slice_eq-Decides}
use Rattle.choices.proofs.ChoiceLaws.{differs_by}
use Rattle.choices.proofs.line_differs.Goals as goal

pub returns : goal.returns
returns c = let a = c.args in
    let first : ℕ = a.line * 8 in
    let count : ℕ = first + 8 - first in
    let same : Bool = pointwise eqb (take count (drop first a.seen.now)) (take count (drop first a.kept.now)) in
    let is : c.ne.result ≡ not same = search rules in
    is ∙ differs_by a.seen.now a.kept.now a.line count (omega arith) (omega arith) (omega arith) (omega arith) same
    (slice_eq-Decides Decides-eqb _ _ same refl)
