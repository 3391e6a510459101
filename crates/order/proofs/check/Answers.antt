-- `order::check` meets its contract.
use Prim.Native.Nat.{ℕ}
use mathlib.Core.Path.{◌≡◌, sym, ap, ◌∙◌}
use mathlib.Core.List.{List}
use Rattle.image.specs.Stored.{stored_logs}
use Rattle.image.proofs.Outcomes.{first-refused, first-passed}
use Rattle.order.specs.Check.{pairs_of, bad_place, marked_by}
use Rattle.order.proofs.Outcomes.{found, bad-image, no_pairs, is-marked}
use Rattle.order.proofs.check.Goals as goal
use Rattle.order.proofs.check.Goals.{After-bad_place}

-- the place that was asked for is the one of the definition
found_is : (c : After-bad_place) → let tested = c.in-Ok.tested in
    bad_place (stored_logs tested.headed.words.now) tested.present 0 (pairs_of c.args.pairs.now) ≡ found c.args.image.now c.args.pairs.now
found_is c =
    let tested = c.in-Ok.tested in
    ap (λ (present : List ℕ). bad_place (stored_logs tested.headed.words.now) present 0 (pairs_of c.args.pairs.now)) tested.counted
    ∙ ap (λ (image : List ℕ). found image c.args.pairs.now) c.in-Ok.ensures.0

pub returns-in-Err : goal.returns-in-Err
returns-in-Err c =
    c.refused.ensures ∙ bad-image c.args.image.now c.args.pairs.now (first-refused c.args.image.now c.in-Err.ensures)

pub returns-then-are_not_pairs : goal.returns-then-are_not_pairs
returns-then-are_not_pairs c =
    c.refused-then-are_not_pairs.ensures
    ∙ no_pairs c.args.image.now c.args.pairs.now (first-passed c.args.image.now c.in-Ok.ensures.1)
    (sym c.are_not_pairs.ensures ∙ c.if-are_not_pairs.true)

pub returns-in-Some : goal.returns-in-Some
returns-in-Some c =
    ap marked_by (c.in-Some.ensures ∙ found_is (goal.at.returns-in-Some c).After-bad_place)
    ∙ is-marked c.args.image.now c.args.pairs.now (first-passed c.args.image.now c.in-Ok.ensures.1)
    (sym c.are_not_pairs.ensures ∙ c.if-are_not_pairs.false)

pub returns-in-None : goal.returns-in-None
returns-in-None c =
    ap marked_by (c.in-None.ensures ∙ found_is (goal.at.returns-in-None c).After-bad_place)
    ∙ is-marked c.args.image.now c.args.pairs.now (first-passed c.args.image.now c.in-Ok.ensures.1)
    (sym c.are_not_pairs.ensures ∙ c.if-are_not_pairs.false)
