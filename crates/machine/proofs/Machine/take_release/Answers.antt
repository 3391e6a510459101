-- `machine::Machine::take_release` meets its contract.
use mathlib.Core.Path.{refl, sym, ap, ◌∙◌}
use Rattle.std.proofs.lemmas.Result.{err_from_is_err_and}
use Rattle.kinds.specs.Kinds.{kind_of}
use Rattle.kinds.specs.declared.Kind.TheVariants.{Release as RELEASE}
use Rattle.machine.specs.View.{machine_of}
use Rattle.machine.proofs.Counts.{reached-counted}
use Rattle.machine.proofs.Inputs.{input-exit}
use Rattle.machine.proofs.PartSteps.{put_released, release-step}
use Rattle.machine.proofs.Reaching.{step-closes}
use Rattle.machine.proofs.Machine.take_release.Goals as goal

pub returns-in_err-input_answer : goal.returns-in_err-input_answer
unfolding kind_of
returns-in_err-input_answer c = let a = c.args in
    input-exit a.self.now a.thread a.lock 0 6 RELEASE refl c.in_err-input_answer.ensures.refusal c.from_residual.result
    c.from_residual.ensures.1

pub returns : goal.returns
returns c = let a = c.args in let old = machine_of c.self.inside in
    rw (← c.self.view_is) (ap (put_released old a.thread a.lock) c.in_ok-given.ensures ∙
    release-step old (reached-counted old c.self.invariant) a.thread a.lock (sym c.in_ok-input_answer.ensures.refusal))

pub invariant_of-self-2 : goal.invariant_of-self-2
invariant_of-self-2 c = let a = c.args in let old = machine_of c.self.inside in
    step-closes 6 a.thread a.lock 0 c.self.invariant (ap (put_released old a.thread a.lock) c.in_ok-given.ensures ∙
    release-step old (reached-counted old c.self.invariant) a.thread a.lock (sym c.in_ok-input_answer.ensures.refusal))

pub returns-in_err-given : goal.returns-in_err-given
returns-in_err-given c = let a = c.args in let old = machine_of c.self.inside in
    let p = err_from_is_err_and c.from_residual-in_err-given.result c.from_residual-in_err-given.ensures.1 in
    rw (← c.self.view_is, p.1, p.2)
    (ap (put_released old a.thread a.lock) c.in_err-given.ensures ∙
    release-step old (reached-counted old c.self.invariant) a.thread a.lock (sym c.in_ok-input_answer.ensures.refusal))

pub invariant_of-self : goal.invariant_of-self
invariant_of-self c = let a = c.args in let old = machine_of c.self.inside in
    step-closes 6 a.thread a.lock 0 c.self.invariant (ap (put_released old a.thread a.lock) c.in_err-given.ensures ∙
    release-step old (reached-counted old c.self.invariant) a.thread a.lock (sym c.in_ok-input_answer.ensures.refusal))
