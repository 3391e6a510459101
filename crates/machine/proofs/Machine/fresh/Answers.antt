-- `machine::Machine::fresh` meets its contract: the cache and the logs are as their own crates make them, and a thread's clock knows its
-- own start.
use borrow.Author.Rules.{rules}
use Rattle.clocks.specs.Clocks.{raise_of}
use Rattle.machine.specs.Holds.{fresh_machine}
use Rattle.machine.proofs.Reaching.{fresh-reached}
use Rattle.machine.proofs.Machine.fresh.Goals as goal

pub returns : goal.returns
unfolding fresh_machine raise_of
returns c = rw (
  c.raise-own3.ensures,
  c.raise-own2.ensures,
  c.raise-own1.ensures,
  c.raise-own0.ensures,
  c.new-log.ensures,
  c.new-cache.ensures,
)

pub invariant_of-result : goal.invariant_of-result
unfolding fresh_machine raise_of
invariant_of-result c =
    rw (
      c.raise-own3.ensures,
      c.raise-own2.ensures,
      c.raise-own1.ensures,
      c.raise-own0.ensures,
      c.new-log.ensures,
      c.new-cache.ensures,
    )
    (fresh-reached c.args.cells (search rules))
