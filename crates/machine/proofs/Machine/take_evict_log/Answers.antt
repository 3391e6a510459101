-- `machine::Machine::take_evict_log` meets its contract.
use mathlib.Core.Path.{refl, sym, ap, ◌∙◌}
use Rattle.kinds.specs.Kinds.{kind_of}
use Rattle.kinds.specs.declared.Kind.TheVariants.{EvictLog as EVICTLOG}
use Rattle.machine.specs.View.{machine_of}
use Rattle.machine.proofs.Inputs.{input-exit}
use Rattle.machine.proofs.PartSteps.{put_changed, evict-log-step}
use Rattle.machine.proofs.Reaching.{step-closes}
use Rattle.machine.proofs.Machine.take_evict_log.Goals as goal

pub returns-in_err-input_answer : goal.returns-in_err-input_answer
unfolding kind_of
returns-in_err-input_answer c = let a = c.args in
    input-exit a.self.now a.thread a.slot 0 12 EVICTLOG refl c.in_err-input_answer.ensures.refusal c.from_residual.result
    c.from_residual.ensures.1

pub returns : goal.returns
returns c = let a = c.args in let old = machine_of c.self.inside in
    rw (← c.self.view_is) (ap (put_changed old a.thread a.slot) c.evict_words.ensures ∙ evict-log-step old a.thread a.slot (sym c.in_ok-input_answer.ensures.refusal))

pub invariant_of-self : goal.invariant_of-self
invariant_of-self c = let a = c.args in let old = machine_of c.self.inside in
    step-closes 12 a.thread a.slot 0 c.self.invariant (ap (put_changed old a.thread a.slot) c.evict_words.ensures ∙ evict-log-step old a.thread a.slot (sym c.in_ok-input_answer.ensures.refusal))
