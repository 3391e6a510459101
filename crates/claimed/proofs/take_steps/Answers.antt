-- `claimed::take_steps` meets its contract. The loop's invariant: what is printed for all lines is printed for those that are left.
use borrow.Author.Rules.{rules}
use Rattle.std.specs.Prelude.{Some}
use Prim.Native.Nat.{◌≤◌, ◌<◌}
use mathlib.Core.Path.{◌≡◌, ap, ◌∙◌}
use mathlib.Core.Bool.{true, false}
use lib.ListN.{length}
use Rattle.machine.specs.declared.Stepped.{Stepped}
use Rattle.listing.specs.Transcript.{start_machine}
use Rattle.claimed.proofs.Steps.{taking_start, taking-end, taking-stops, taking_step}
use Rattle.listing.proofs.InputLaws.{some_left, nothing_left, after-shorter}
use Rattle.claimed.proofs.take_steps.Goals as goal
use Rattle.claimed.proofs.take_steps.Goals.{After-is_empty, After-start-started}

-- the machine of the start call
started : (c : After-start-started) → c.start-started.result.machine ≡ start_machine
unfolding start_machine
started c = ap (λ (stepped : Stepped). stepped.machine) c.start-started.ensures

-- something is left of the input in a turn of the loop, and nothing after it
more : (c : After-is_empty) → c.is_empty.result ≡ false → 0 < length c.loop-kind.rest.now
more c not_empty = some_left c.loop-kind.rest.now c.is_empty.ensures not_empty

none : (c : After-is_empty) → c.is_empty.result ≡ true → length c.loop-kind.rest.now ≤ 0
none c empty = nothing_left c.loop-kind.rest.now c.is_empty.ensures empty

pub loop-kind-init : goal.loop-kind-init
loop-kind-init c = taking_start c.args.input.now (started (goal.at.loop-kind-init c).After-start-started)

pub returns-in_default : goal.returns-in_default
returns-in_default c = taking-stops c.loop-kind.invariant (more (goal.at.returns-in_default c).After-is_empty c.loop-kind-test.true) c.first_line.ensures (λ kind thread place value says. search rules)

pub loop-kind-preserved : goal.loop-kind-preserved
loop-kind-preserved c = taking_step c.loop-kind.invariant (more (goal.at.loop-kind-preserved c).After-is_empty c.loop-kind-test.true) c.first_line.ensures (c.in-Some-Step.is ∙ ap Some c.in-Some-Step.field-0-is)
    (ap (λ (stepped : Stepped). stepped.machine) c.take.ensures) c.after_line-rest.ensures

pub returns : goal.returns
returns c = taking-end c.loop-kind.invariant (none (goal.at.returns c).After-is_empty c.loop-kind-test.false)

pub loop-kind-smaller : goal.loop-kind-smaller
loop-kind-smaller c =
    rw c.after_line-rest.ensures (after-shorter c.loop-kind.rest.now (more (goal.at.loop-kind-smaller c).After-is_empty c.loop-kind-test.true))
