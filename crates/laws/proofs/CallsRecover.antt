-- Demand 3 over calls: a list of calls leads to the machine of its steps, of which demand 3 speaks.
use mathlib.Core.Path.{◌≡◌, refl, sym, ap, ◌∙◌}
use mathlib.Core.List.{List, [], ◌∷◌}
use Rattle.machine.specs.Runs.{Step, step_with, after}
use Rattle.machine.specs.State.{Machine}
use Rattle.machine.proofs.Reaching.{after_append}
use Rattle.batch.specs.Batch.{log_cells_of, first_logs}
use Rattle.batch.specs.declared.CellsLogged.{CellsLogged}
use Rattle.batch.proofs.BatchLaws.{logged_after}
use Rattle.atomicity.specs.History.{start_machine}
use Rattle.atomicity.proofs.Demand3Holds.{demand_3}
use Rattle.laws.specs.Calls.{Call, one, many, after_calls, all_steps, AllCallsRecover}

calls-after : (machine : Machine) (calls : List Call) → after_calls machine calls ≡ after machine (all_steps machine calls)
unfolding after_calls all_steps after
calls-after machine [] = refl
calls-after machine (one step ∷ calls) = calls-after (step_with machine step).machine calls
calls-after machine (many thread cells ∷ calls) =
    let logged : CellsLogged = log_cells_of machine thread cells in
    let rest : List Step = all_steps logged.machine calls in
    calls-after logged.machine calls ∙
    (ap (λ (before : Machine). after before rest) (logged_after machine thread cells) ∙
    sym (after_append machine (first_logs thread cells logged.count) rest))

pub all-calls_recover : AllCallsRecover
all-calls_recover words calls = record {
  same_machine = calls-after (start_machine words) calls;
  recovers = λ cut image buffer. demand_3 words (all_steps (start_machine words) calls) cut image buffer;
}
