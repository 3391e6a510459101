-- "A new call takes a thread and a lent list of up to 16 cells and logs them in order, up to the first refused. It answers how many were
-- accepted, and the refusal that stopped it, or 0. The machine is then that of single LOG steps for the accepted cells. (New 25: a list
-- longer than 16, tested first; it changes nothing.)" (document 02)
use Rattle.std.specs.Prelude.{Ok, ℕ, suc, ◌+◌, ◌≤◌, ◌<◌, ◌≡◌, false, cond, List, [], ◌∷◌, map, length, get_or, take, replicate, ltb}
use Rattle.answer.specs.Answer.{number_of, is_accepted}
use Rattle.answer.specs.Refusals.{◌⇒◌, unless}
use Rattle.answer.specs.Answer.{Answer}
use Rattle.answer.specs.declared.Refusal.TheVariants.{TooManyCells}
use Rattle.machine.specs.Runs.{Step, step_with, after, answers}
use Rattle.machine.specs.Steps.{refused}
use Rattle.machine.specs.State.{Machine}
use Rattle.batch.specs.declared.CellsLogged.{CellsLogged}

-- "up to 16 cells"
abbrev pub most_cells : ℕ
most_cells = 16

-- the LOG step of a cell, which may be any word
abbrev pub log_step : ℕ → ℕ → Step
log_step thread cell = record { kind = 2; thread = thread; place = cell; value = 0 }

-- no cell was accepted, and the machine is as it was
abbrev pub none_logged : Machine → Answer → CellsLogged
none_logged machine answer = record { count = 0; answer = answer; machine = machine }

-- so many cells were accepted before these, and one
abbrev pub many_before : ℕ → CellsLogged → CellsLogged
many_before count logged = record { count = count + logged.count; answer = logged.answer; machine = logged.machine }

abbrev pub one_before : CellsLogged → CellsLogged
one_before logged = record { count = suc logged.count; answer = logged.answer; machine = logged.machine }

-- "logs them in order, up to the first refused": that one changes nothing, and none after it is tried. A cell logged again is accepted
-- and counts. "the refusal that stopped it, or 0": no rank stands beside the 0.
unfoldable pub log_each : Machine → ℕ → List ℕ → CellsLogged
log_each machine thread [] = none_logged machine (Ok 0)
log_each machine thread (cell ∷ cells) =
    let stepped = step_with machine (log_step thread cell) in
    cond (is_accepted stepped.answer) (one_before (log_each stepped.machine thread cells)) (none_logged machine stepped.answer)

-- "25: a list longer than 16, tested first; it changes nothing"
unfoldable pub log_cells_of : Machine → ℕ → List ℕ → CellsLogged
log_cells_of machine thread cells =
    unless (none_logged machine) ((ltb most_cells (length cells) ⇒ TooManyCells) ∷ []) (log_each machine thread cells)

-- ---- the call is what single LOG steps do

-- the LOG steps of the first so many cells
abbrev pub first_logs : ℕ → List ℕ → ℕ → List Step
first_logs thread cells count = map (log_step thread) (take count cells)

-- what is claimed of what a call leaves: it says the same as `log_each` without going from cell to cell
pub record LogsSingly (machine : Machine) (thread : ℕ) (cells : List ℕ) (logged : CellsLogged) : Type 0 where
  -- "how many were accepted"
  pub most : logged.count ≤ length cells
  -- "The machine is then that of single LOG steps for the accepted cells", and each of these is accepted
  pub same_machine : logged.machine ≡ after machine (first_logs thread cells logged.count)
  pub all_accepted : map number_of (answers machine (first_logs thread cells logged.count)) ≡ replicate logged.count 0
  -- "up to the first refused .. the refusal that stopped it": the next cell's LOG is refused so, by the machine that is handed back
  pub stopped : logged.count < length cells →
      (step_with logged.machine (log_step thread (get_or cells logged.count 0)) ≡ refused logged.machine logged.answer) ×
      (is_accepted logged.answer ≡ false)
  -- "or 0"
  pub all_logged : logged.count ≡ length cells → logged.answer ≡ Ok 0

-- the claim, of every machine, every thread and every list of at most 16 words
abbrev pub AllLogSingly : Type 0
AllLogSingly =
    (machine : Machine) (thread : ℕ) (cells : List ℕ) →
    length cells ≤ most_cells → LogsSingly machine thread cells (log_cells_of machine thread cells)
