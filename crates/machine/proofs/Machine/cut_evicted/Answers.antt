-- `machine::Machine::cut_evicted` meets its contract: with every cell's cached content persisted, the machine is the one after an EVICTCELL
-- of each, which is reached.
use mathlib.Core.Path.{sym, ap, ◌∙◌, subst}
use borrow.Author.Rules.{rules}
use Rattle.machine.specs.Image.{cut_of}
use Rattle.machine.specs.Runs.{evict_all, Reached}
use Rattle.machine.specs.State.{Machine}
use Rattle.machine.specs.View.{machine_of}
use Rattle.machine.proofs.Evictions.{all-evicted}
use Rattle.machine.proofs.Reaching.{after-reached}
use Rattle.machine.proofs.Machine.cut_evicted.Goals as goal

pub invariant_of-self : goal.invariant_of-self
invariant_of-self c = let old = machine_of c.self.inside in
    subst Reached (all-evicted old (search rules)) (after-reached old evict_all c.self.invariant)

pub returns : goal.returns
returns c = let old = machine_of c.self.inside in
    rw (← c.self.view_is) (c.cut.ensures.image ∙
    ap (λ (machine : Machine). cut_of machine c.args.image.now) (sym (all-evicted old (search rules))))
