-- A list of steps from a start call: its machine, each step with whether it was accepted, and the reference model that was fed them.
use Rattle.std.specs.Prelude.{ℕ, ◌≡◌, Bool, true, false, cond, List, [], ◌∷◌, length, get_or, take, replicate, eqb, Some}
use Rattle.answer.specs.Answer.{is_accepted}
use Rattle.cache.specs.Cache.{cell_count}
use Rattle.machine.specs.Holds.{start_of}
use Rattle.machine.specs.Runs.{Step, step_with, after}
use Rattle.machine.specs.State.{Machine}
use Rattle.reference.specs.Reference.{Book, empty_book, feed, joins}

-- a step, and whether it was accepted
pub record Fed : Type 0 where
  pub kind : ℕ
  pub thread : ℕ
  pub place : ℕ
  pub value : ℕ
  pub accepted : Bool

-- what stands past the end of a history: no accepted step
abbrev pub no_step : Fed
no_step = record { kind = 0; thread = 0; place = 0; value = 0; accepted = false }

-- the step at a place of a history
abbrev pub step_at : List Fed → ℕ → Fed
step_at history place = get_or history place no_step

abbrev pub fed_with : Step → Bool → Fed
fed_with step accepted = record {
  kind = step.kind;
  thread = step.thread;
  place = step.place;
  value = step.value;
  accepted = accepted;
}

-- the history of a list of steps from a machine
unfoldable pub history_of : Machine → List Step → List Fed
history_of machine [] = []
history_of machine (step ∷ steps) =
    let stepped = step_with machine step in
    fed_with step (is_accepted stepped.answer) ∷ history_of stepped.machine steps

-- the reference model after a history
unfoldable pub fed_book : Book → List Fed → Book
fed_book book [] = book
fed_book book (fed ∷ history) =
    fed_book (feed book fed.kind fed.thread fed.place fed.value fed.accepted) history

-- "The list begins at the machine the start call gives (start cells 0 where 21 refused it)."
abbrev pub start_machine : List ℕ → Machine
start_machine words = (start_of words).machine

-- the start cells, from the start words alone: these words, and "start cells 0 where 21 refused it" ("21: start not 128 words")
unfoldable pub start_cells : List ℕ → List ℕ
start_cells words = cond (eqb (length words) cell_count) words (replicate cell_count 0)

-- the machine after the steps
abbrev pub machine_after : List ℕ → List Step → Machine
machine_after words steps = after (start_machine words) steps

-- the steps, each with whether it was accepted
abbrev pub history_after : List ℕ → List Step → List Fed
history_after words steps = history_of (start_machine words) steps

-- the reference model, "fed the steps before the cut and no others"
abbrev pub book_after : List ℕ → List Step → Book
book_after words steps = fed_book (empty_book (start_cells words)) (history_after words steps)

-- the reference model as it stands before the step at a place of a history
abbrev pub book_before : List ℕ → List Fed → ℕ → Book
book_before cells history place = fed_book (empty_book cells) (take place history)

-- "a region's steps are those that joined it": the accepted step at this place joined this region
pub record Joined (cells : List ℕ) (history : List Fed) (place region : ℕ) : Type 0 where
  pub is_accepted : (step_at history place).accepted ≡ true
  pub joined_region : joins (book_before cells history place) (step_at history place).kind (step_at history place).thread ≡ Some region
