-- `recovery::recover` meets its contract.
use Prim.Native.Nat.{ℕ}
use mathlib.Core.Path.{◌≡◌, sym, ap, ◌∙◌}
use mathlib.Core.List.{List}
use Rattle.std.specs.Prelude.{Ok}
use Rattle.std.proofs.lemmas.Result.{err_from_is_err_and}
use Rattle.image.proofs.Outcomes.{first-refused, first-passed}
use Rattle.undoing.specs.Undo.{Undo, undone}
use Rattle.undoing.specs.Reading.{undo_of}
use Rattle.recovery.specs.Recover.{has_left}
use Rattle.recovery.proofs.Outcomes.{wrong-buffer, bad-image, cyclic, recovered}
use Rattle.recovery.proofs.recover.Goals as goal
use Rattle.recovery.proofs.recover.Goals.{After-has_left, After-undo-undone}

-- what the code undoes is what the definition does
undone_is : (c : After-undo-undone) → undo_of c.undo-undone.result ≡ undone c.args.image.now
undone_is c = c.undo-undone.ensures ∙ ap undone c.in_ok-tested.ensures.0

-- what is left is what the definition leaves
left_is : (c : After-has_left) → has_left (undone c.args.image.now) ≡ c.has_left.result
unfolding has_left
left_is c = sym (c.has_left.ensures ∙ ap has_left (c.undo-undone.ensures ∙ ap undone c.in_ok-tested.ensures.0))

pub returns-then-cells-ne-CELLS : goal.returns-then-cells-ne-CELLS
returns-then-cells-ne-CELLS c = wrong-buffer c.args.image.now c.args.cells.now c.if-cells-ne-CELLS.true

pub returns-in_err-tested : goal.returns-in_err-tested
returns-in_err-tested c =
    let a = c.args in
    let p = err_from_is_err_and c.from_residual.result c.from_residual.ensures.1 in
    rw (p.1, p.2) (bad-image a.image.now a.cells.now c.if-cells-ne-CELLS.false (first-refused a.image.now c.in_err-tested.ensures))

pub returns-then-has_left : goal.returns-then-has_left
returns-then-has_left c =
    let a = c.args in
    cyclic a.image.now a.cells.now c.if-cells-ne-CELLS.false (first-passed a.image.now c.in_ok-tested.ensures.1)
    (left_is (goal.at.returns-then-has_left c).After-has_left ∙ c.if-has_left.true)

pub returns : goal.returns
returns c =
    let a = c.args in
    ap (λ (cells : List ℕ). record { answer = Ok 0; buffer = cells })
    (c.copy_from_slice.ensures.after ∙ ap (λ (undo : Undo). undo.cells) (undone_is (goal.at.returns c).After-undo-undone))
    ∙ recovered a.image.now a.cells.now c.if-cells-ne-CELLS.false (first-passed a.image.now c.in_ok-tested.ensures.1)
    (left_is (goal.at.returns c).After-has_left ∙ c.if-has_left.false)
