-- `machine::Machine::take_prune` meets its contract.
use mathlib.Core.Path.{refl, sym, ap, ◌∙◌}
use Rattle.kinds.specs.Kinds.{kind_of}
use Rattle.kinds.specs.declared.Kind.TheVariants.{Prune as PRUNE}
use Rattle.machine.specs.View.{machine_of}
use Rattle.machine.proofs.Counts.{reached-counted}
use Rattle.machine.proofs.Inputs.{input-exit}
use Rattle.machine.proofs.PartSteps.{put_pruned, prune-step}
use Rattle.machine.proofs.Reaching.{step-closes}
use Rattle.machine.proofs.Machine.take_prune.Goals as goal

pub returns-in_err-input_answer : goal.returns-in_err-input_answer
unfolding kind_of
returns-in_err-input_answer c = let a = c.args in
    input-exit a.self.now a.thread 0 0 10 PRUNE refl c.in_err-input_answer.ensures.refusal c.from_residual.result
    c.from_residual.ensures.1

pub returns : goal.returns
returns c = let a = c.args in let old = machine_of c.self.inside in
    rw (← c.self.view_is) (ap (put_pruned old a.thread 0) c.prune.ensures ∙
    prune-step old (reached-counted old c.self.invariant) a.thread 0 (sym c.in_ok-input_answer.ensures.refusal))

pub invariant_of-self : goal.invariant_of-self
invariant_of-self c = let a = c.args in let old = machine_of c.self.inside in
    step-closes 10 a.thread 0 0 c.self.invariant (ap (put_pruned old a.thread 0) c.prune.ensures ∙
    prune-step old (reached-counted old c.self.invariant) a.thread 0 (sym c.in_ok-input_answer.ensures.refusal))
