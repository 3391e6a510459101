-- "The sum of all PRUNE answers plus the live entries equals the accepted LOG, ACQUIRE and LOGREL steps." Document 02: it "counts only LOG
-- steps that appended".
use Rattle.std.specs.Prelude.{ℕ, ◌+◌, ◌≡◌, Bool, cond, not, ◌&&◌, ◌||◌, List, [], ◌∷◌, map, eqb}
use Rattle.answer.specs.Answer.{is_accepted, value_of}
use Rattle.thread_log.specs.Entries.{live_count}
use Rattle.undo.specs.Regions.{is_logged}
use Rattle.machine.specs.Holds.{log_of}
use Rattle.machine.specs.Runs.{Step, step_with}
use Rattle.machine.specs.State.{Machine}
use Rattle.atomicity.specs.History.{start_machine, machine_after}

-- the sum of a list of numbers
unfoldable pub sum : List ℕ → ℕ
sum [] = 0
sum (number ∷ numbers) = number + sum numbers

-- the sum of the PRUNE answers of a list of steps (10 is PRUNE)
unfoldable pub freed_by : Machine → List Step → ℕ
freed_by machine [] = 0
freed_by machine (step ∷ steps) =
    cond (eqb step.kind 10) (value_of (step_with machine step).answer) 0 + freed_by (step_with machine step).machine steps

-- the step appends where it is accepted: 2 LOG of a cell without an entry in its thread's current region, 4 ACQUIRE and 5 LOGREL
abbrev pub appends : Machine → Step → Bool
appends machine step =
    (eqb step.kind 2 && not (is_logged (log_of machine step.thread) step.place)) || eqb step.kind 4 || eqb step.kind 5

-- how many steps of a list are accepted ones that append
unfoldable pub appended_by : Machine → List Step → ℕ
appended_by machine [] = 0
appended_by machine (step ∷ steps) =
    cond (is_accepted (step_with machine step).answer && appends machine step) 1 0 + appended_by (step_with machine step).machine steps

-- the live entries of all four logs
abbrev pub live_in : Machine → ℕ
live_in machine = sum (map live_count machine.logs)

-- the log's sum
abbrev pub LogSum : Type 0
LogSum =
    (words : List ℕ) (steps : List Step) →
    freed_by (start_machine words) steps + live_in (machine_after words steps) ≡ appended_by (start_machine words) steps
