-- Demand 3 over calls: calls that log many cells may stand among the steps. "The machine is then that of single LOG steps for the accepted
-- cells" (document 02), so that a power cut after any of a call's LOGs is a cut of demand 3 too.
use Rattle.std.specs.Prelude.{ℕ, ◌≤◌, ◌≡◌, List, [], ◌∷◌, ◌++◌, length, take}
use Rattle.cache.specs.Cache.{cell_count}
use Rattle.reader.specs.Stretch.{image_words}
use Rattle.machine.specs.Runs.{Step, step_with}
use Rattle.machine.specs.State.{Machine}
use Rattle.batch.specs.Batch.{log_cells_of, first_logs}
use Rattle.atomicity.specs.Demand3.{Recovers}
use Rattle.atomicity.specs.History.{start_machine, machine_after}

-- a call on a machine: one step, or a thread's list of cells to be logged
pub data Call : Type 0 where
  one : Step → Call
  many : ℕ → List ℕ → Call

-- the machine after a call
abbrev pub called : Machine → Call → Machine
called machine (one step) = (step_with machine step).machine
called machine (many thread cells) = (log_cells_of machine thread cells).machine

-- a call as steps: the step itself, or the LOGs of the accepted cells
abbrev pub call_steps : Machine → Call → List Step
call_steps machine (one step) = step ∷ []
call_steps machine (many thread cells) = first_logs thread cells (log_cells_of machine thread cells).count

-- the machine after a list of calls
unfoldable pub after_calls : Machine → List Call → Machine
after_calls machine [] = machine
after_calls machine (call ∷ calls) = after_calls (called machine call) calls

-- a list of calls as steps
unfoldable pub all_steps : Machine → List Call → List Step
all_steps machine [] = []
all_steps machine (call ∷ calls) = call_steps machine call ++ all_steps (called machine call) calls

-- what demand 3 says of a list of calls from a start
pub record CallsRecover (words : List ℕ) (calls : List Call) : Type 0 where
  -- the calls lead to the machine of their steps
  pub same_machine : after_calls (start_machine words) calls ≡ machine_after words (all_steps (start_machine words) calls)
  -- cut before the first step or after any, also between two LOGs of one call
  pub recovers : (cut : ℕ) (image buffer : List ℕ) → cut ≤ length (all_steps (start_machine words) calls) →
      length image ≡ image_words → length buffer ≡ cell_count →
      Recovers words (take cut (all_steps (start_machine words) calls)) image buffer

abbrev pub AllCallsRecover : Type 0
AllCallsRecover = (words : List ℕ) (calls : List Call) → CallsRecover words calls
