-- `machine::Machine::take_fence` meets its contract.
use mathlib.Core.Path.{refl, sym}
use Rattle.kinds.specs.Kinds.{kind_of}
use Rattle.kinds.specs.declared.Kind.TheVariants.{Fence as FENCE}
use Rattle.machine.specs.Effects.{effect, fence_effect}
use Rattle.machine.specs.View.{machine_of}
use Rattle.machine.proofs.Inputs.{input-exit}
use Rattle.machine.proofs.PartSteps.{fence-step}
use Rattle.machine.proofs.Reaching.{step-closes}
use Rattle.machine.proofs.Machine.take_fence.Goals as goal

pub returns-in_err-input_answer : goal.returns-in_err-input_answer
unfolding kind_of
returns-in_err-input_answer c = let a = c.args in
    input-exit a.self.now a.thread 0 0 9 FENCE refl c.in_err-input_answer.ensures.refusal c.from_residual.result
    c.from_residual.ensures.1

pub returns : goal.returns
unfolding effect fence_effect
returns c = let a = c.args in let old = machine_of c.self.inside in
    rw (← c.self.view_is, c.carried-carried.ensures, c.fence-self-inside.ensures, c.fence.ensures) (fence-step old a.thread 0 (sym c.in_ok-input_answer.ensures.refusal))

pub invariant_of-self : goal.invariant_of-self
unfolding effect fence_effect
invariant_of-self c = let a = c.args in let old = machine_of c.self.inside in
    rw (c.fence-self-inside.ensures, c.fence.ensures) (step-closes 9 a.thread 0 0 c.self.invariant (fence-step old a.thread 0 (sym c.in_ok-input_answer.ensures.refusal)))
