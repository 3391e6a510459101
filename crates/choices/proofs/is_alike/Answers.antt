-- `choices::is_alike` meets its contract. The loop's invariant: no cell before `cell` would be another than the kept one.
use Prim.Native.Nat.{ℕ}
use mathlib.Core.Path.{◌≡◌, refl, ap, ◌∙◌}
use mathlib.Core.Bool.{Bool, true, false, cond, not}
use mathlib.Core.List.{List}
use lib.ListN.{get_or}
use lib.Dec.{eqb}
use borrow.Author.Rules.{rules}
use borrow.Author.Tests.{eq-eqb, ne_eqb}
use Rattle.answer.proofs.ListLaws.{cond_same}
use Rattle.answer.proofs.Searches.{search_starts, search-on, search-finds, search-ends}
use Rattle.cache.specs.Cache.{line_of}
use Rattle.choices.specs.Counting.{mixed_at, is_alike}
use Rattle.choices.proofs.is_alike.Goals as goal
use Rattle.choices.proofs.is_alike.Goals.{else-differs-via-then-differs+else-marks-cell, else-differs-via-else-differs}

module _ (marks : List Bool) (seen kept : List ℕ) (cell : ℕ) where
  -- with the seen contents in the marked lines the cell holds another one than the kept one
  abbrev changes : Bool
  changes = not (eqb (mixed_at marks seen kept cell) (get_or kept cell 0))

  marked : get_or marks (line_of cell) false ≡ true → (get_or seen cell 0 ≡ get_or kept cell 0 → ⊥) → changes ≡ true
  unfolding mixed_at
  marked is differs = rw is (ap not (ne_eqb (get_or seen cell 0) (get_or kept cell 0) differs))

  unmarked : get_or marks (line_of cell) false ≡ false → changes ≡ false
  unfolding mixed_at
  unmarked is = rw is (ap not (eq-eqb (get_or kept cell 0) (get_or kept cell 0) refl))

  unchanged : get_or seen cell 0 ≡ get_or kept cell 0 → changes ≡ false
  unfolding mixed_at
  unchanged same =
      ap not
      (eq-eqb _ _
      (ap (λ (content : ℕ). cond (get_or marks (line_of cell) false) content (get_or kept cell 0)) same ∙
      cond_same (get_or marks (line_of cell) false) (get_or kept cell 0)))

pub loop-cell-init : goal.loop-cell-init
loop-cell-init c = search_starts

pub returns-then-marks-cell : goal.returns-then-marks-cell
unfolding is_alike
returns-then-marks-cell c = let l = c.loop-cell in
    let a = c.args in
    ap not (search-finds l.invariant (search rules) (marked a.marks a.seen.now a.kept.now l.cell c.if-marks-cell.true c.if-differs.true))

pub loop-cell-preserved : goal.loop-cell-preserved
loop-cell-preserved c = let l = c.loop-cell in
    let a = c.args in
    elim c.else-differs.branch [
      | else-differs-via-then-differs+else-marks-cell w ↦
          search-on l.invariant (search rules) (unmarked a.marks a.seen.now a.kept.now l.cell w.if-marks-cell.false)
      | else-differs-via-else-differs w ↦
          search-on l.invariant (search rules) (unchanged a.marks a.seen.now a.kept.now l.cell w.if-differs.false)
    ]

pub returns : goal.returns
unfolding is_alike
returns c = ap not (search-ends c.loop-cell.invariant (search rules))
