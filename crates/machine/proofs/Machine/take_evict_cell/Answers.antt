-- `machine::Machine::take_evict_cell` meets its contract.
use mathlib.Core.Path.{refl, sym}
use Rattle.kinds.specs.Kinds.{kind_of}
use Rattle.kinds.specs.declared.Kind.TheVariants.{EvictCell as EVICTCELL}
use Rattle.machine.specs.Effects.{effect, evict_cell_effect}
use Rattle.machine.specs.View.{machine_of}
use Rattle.machine.proofs.Inputs.{input-exit}
use Rattle.machine.proofs.PartSteps.{evict-cell-step}
use Rattle.machine.proofs.Reaching.{step-closes}
use Rattle.machine.proofs.Machine.take_evict_cell.Goals as goal

pub returns-in_err-input_answer : goal.returns-in_err-input_answer
unfolding kind_of
returns-in_err-input_answer c = let a = c.args in
    input-exit a.self.now 0 a.cell 0 13 EVICTCELL refl c.in_err-input_answer.ensures.refusal c.from_residual.result
    c.from_residual.ensures.1

pub returns : goal.returns
unfolding effect evict_cell_effect
returns c = let a = c.args in let old = machine_of c.self.inside in
    rw (← c.self.view_is, c.evict_cell-self-inside.ensures) (evict-cell-step old 0 a.cell (sym c.in_ok-input_answer.ensures.refusal))

pub invariant_of-self : goal.invariant_of-self
unfolding effect evict_cell_effect
invariant_of-self c = let a = c.args in let old = machine_of c.self.inside in
    rw c.evict_cell-self-inside.ensures (step-closes 13 0 a.cell 0 c.self.invariant (evict-cell-step old 0 a.cell (sym c.in_ok-input_answer.ensures.refusal)))
