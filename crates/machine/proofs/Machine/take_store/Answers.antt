-- `machine::Machine::take_store` meets its contract.
use mathlib.Core.Path.{refl, sym, ap, ◌∙◌}
use Rattle.std.proofs.lemmas.Result.{err_from_is_err_and}
use Rattle.kinds.specs.Kinds.{kind_of}
use Rattle.kinds.specs.declared.Kind.TheVariants.{Store as STORE}
use Rattle.machine.specs.Effects.{store_effect}
use Rattle.machine.specs.View.{machine_of}
use Rattle.machine.proofs.Inputs.{input-exit}
use Rattle.machine.proofs.PartSteps.{put_stored, store_step}
use Rattle.machine.proofs.Reaching.{step-closes}
use Rattle.machine.proofs.Machine.take_store.Goals as goal

pub returns-in_err-input_answer : goal.returns-in_err-input_answer
unfolding kind_of
returns-in_err-input_answer c = let a = c.args in
    input-exit a.self.now a.thread a.cell a.value 3 STORE refl c.in_err-input_answer.ensures.refusal c.from_residual.result
    c.from_residual.ensures.1

pub returns : goal.returns
unfolding store_effect
returns c = let a = c.args in let old = machine_of c.self.inside in
    rw (← c.self.view_is, c.store-self-inside.ensures)
    (ap (put_stored old a.thread a.cell a.value) c.in_ok-store_answer.ensures ∙
    store_step old a.thread a.cell a.value (sym c.in_ok-input_answer.ensures.refusal))

pub invariant_of-self : goal.invariant_of-self
unfolding store_effect
invariant_of-self c = let a = c.args in let old = machine_of c.self.inside in
    rw c.store-self-inside.ensures
    (step-closes 3 a.thread a.cell a.value c.self.invariant
    (ap (put_stored old a.thread a.cell a.value) c.in_ok-store_answer.ensures ∙
    store_step old a.thread a.cell a.value (sym c.in_ok-input_answer.ensures.refusal)))

pub returns-in_err-store_answer : goal.returns-in_err-store_answer
returns-in_err-store_answer c = let a = c.args in let old = machine_of c.self.inside in
    let p = err_from_is_err_and c.from_residual-in_err-store_answer.result c.from_residual-in_err-store_answer.ensures.1 in
    rw (← c.self.view_is, p.1, p.2)
    (ap (put_stored old a.thread a.cell a.value) c.in_err-store_answer.ensures ∙
    store_step old a.thread a.cell a.value (sym c.in_ok-input_answer.ensures.refusal))
