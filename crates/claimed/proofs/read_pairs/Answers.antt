-- `claimed::read_pairs` meets its contract. The loop's invariant: what is printed for all lines is printed for those that are left.
use mathlib.Core.Path.{◌≡◌, ap, ◌∙◌}
use mathlib.Core.Bool.{true, false}
use borrow.Author.Rules.{rules}
use Rattle.std.specs.Prelude.{Some}
use Prim.Native.Nat.{◌≤◌, ◌<◌}
use native.Mathlib.Omega.{arith}
use lib.ListN.{length}
use Rattle.claimed.proofs.Kept.{kept_more, kept_full}
use Rattle.claimed.proofs.Pairs.{reading-end, reading-stops, reading-on}
use Rattle.listing.proofs.InputLaws.{some_left, nothing_left, after-shorter}
use Rattle.claimed.proofs.read_pairs.Goals as goal
use Rattle.claimed.proofs.read_pairs.Goals.{After-is_empty, else-has_room, then-has_room}

-- something is left of the input in a turn of the loop, and nothing after it
more : (c : After-is_empty) → c.is_empty.result ≡ false → 0 < length c.loop-rest.rest.now
more c not_empty = some_left c.loop-rest.rest.now c.is_empty.ensures not_empty

none : (c : After-is_empty) → c.is_empty.result ≡ true → length c.loop-rest.rest.now ≤ 0
none c empty = nothing_left c.loop-rest.rest.now c.is_empty.ensures empty

pub returns-in_default : goal.returns-in_default
returns-in_default c = reading-stops c.loop-rest.invariant (more (goal.at.returns-in_default c).After-is_empty c.loop-rest-test.true) c.first_line.ensures (λ thread rank says. search rules)

pub returns-in_default-2 : goal.returns-in_default-2
returns-in_default-2 c = reading-stops c.loop-rest.invariant (more (goal.at.returns-in_default-2 c).After-is_empty c.loop-rest-test.true) c.first_line.ensures (λ thread rank says. search rules)

pub loop-rest-preserved : goal.loop-rest-preserved
loop-rest-preserved c = let inv = c.loop-rest.invariant in
    let thread = c.in-Some-Undo.thread in
    let rank = c.in-Some-Undo.rank in
    reading-on inv (more (goal.at.loop-rest-preserved c).After-is_empty c.loop-rest-test.true) c.first_line.ensures (c.in-Some-Undo.is ∙ ap Some c.in-Some-Undo.field-0-is) c.after_line-rest.ensures
    (elim c.if-has_room.branch [ then-has_room w ↦ rw (w.pairs-is, w.count-is) (kept_more inv.kept thread rank (omega (arith, w.if-has_room.true))) | else-has_room w ↦ rw (w.pairs-is, w.count-is) (kept_full inv.kept thread rank (omega (arith, w.if-has_room.false))) ])

pub returns : goal.returns
returns c = reading-end c.loop-rest.invariant (none (goal.at.returns c).After-is_empty c.loop-rest-test.false)

pub loop-rest-smaller : goal.loop-rest-smaller
loop-rest-smaller c =
    rw c.after_line-rest.ensures (after-shorter c.loop-rest.rest.now (more (goal.at.loop-rest-smaller c).After-is_empty c.loop-rest-test.true))
