-- `machine::Machine::take_flush` meets its contract.
use mathlib.Core.Path.{refl, sym}
use Rattle.kinds.specs.Kinds.{kind_of}
use Rattle.kinds.specs.declared.Kind.TheVariants.{Flush as FLUSH}
use Rattle.machine.specs.Effects.{effect, flush_effect}
use Rattle.machine.specs.View.{machine_of}
use Rattle.machine.proofs.Inputs.{input-exit}
use Rattle.machine.proofs.PartSteps.{flush-step}
use Rattle.machine.proofs.Reaching.{step-closes}
use Rattle.machine.proofs.Machine.take_flush.Goals as goal

pub returns-in_err-input_answer : goal.returns-in_err-input_answer
unfolding kind_of
returns-in_err-input_answer c = let a = c.args in
    input-exit a.self.now a.thread a.line 0 7 FLUSH refl c.in_err-input_answer.ensures.refusal c.from_residual.result
    c.from_residual.ensures.1

pub returns : goal.returns
unfolding effect flush_effect
returns c = let a = c.args in let old = machine_of c.self.inside in
    rw (← c.self.view_is, c.flush-self-inside.ensures) (flush-step old a.thread a.line (sym c.in_ok-input_answer.ensures.refusal))

pub invariant_of-self : goal.invariant_of-self
unfolding effect flush_effect
invariant_of-self c = let a = c.args in let old = machine_of c.self.inside in
    rw c.flush-self-inside.ensures (step-closes 7 a.thread a.line 0 c.self.invariant (flush-step old a.thread a.line (sym c.in_ok-input_answer.ensures.refusal)))
