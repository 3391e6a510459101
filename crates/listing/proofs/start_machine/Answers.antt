-- `listing::start_machine` meets its contract.
use mathlib.Core.Path.{ap}
use Rattle.machine.specs.declared.Stepped.{Stepped}
use Rattle.listing.specs.Transcript.{start_machine}
use Rattle.listing.proofs.start_machine.Goals as goal

pub returns : goal.returns
unfolding start_machine
returns c = ap (λ (stepped : Stepped). stepped.machine) c.start-started.ensures
