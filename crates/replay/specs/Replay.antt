-- A whole run over lent buffers: the start call, a list of steps given as words, the cut and recovery.
use Rattle.std.specs.Prelude.{Ok, Err}
use Rattle.std.specs.Prelude.{ℕ, zero, suc, ◌+◌, ◌*◌, ◌/◌, cond, ◌&&◌, List, [], ◌∷◌, length, get_or, eqb}
use Rattle.answer.specs.Answer.{Answer}
use Rattle.answer.specs.declared.Refusal.TheVariants.{WrongLength}
use Rattle.cache.specs.Cache.{cell_count}
use Rattle.reader.specs.Stretch.{image_words}
use Rattle.machine.specs.Image.{image_of}
use Rattle.machine.specs.Runs.{Step, step_with}
use Rattle.machine.specs.declared.Stepped.{Stepped}
use Rattle.reference.specs.Reference.{cells_of}
use Rattle.atomicity.specs.History.{machine_after, book_after}

-- "A step is kind, thread, place, value": four words
abbrev pub step_words : ℕ
step_words = 4

-- the step whose words begin at this place
abbrev pub step_in : List ℕ → ℕ → Step
step_in words place = record {
  kind = get_or words place 0;
  thread = get_or words (place + 1) 0;
  place = get_or words (place + 2) 0;
  value = get_or words (place + 3) 0;
}

-- so many steps, from the one of this number on
unfoldable pub steps_from : List ℕ → ℕ → ℕ → List Step
steps_from words number zero = []
steps_from words number (suc count) = step_in words (number * step_words) ∷ steps_from words (suc number) count

-- the steps of a list of words. A last step that is cut short, of one to three words, is none.
unfoldable pub steps_of : List ℕ → List Step
steps_of words = steps_from words 0 (length words / step_words)

-- the answer of the last step and the machine after it; those of the start call where there is no step
unfoldable pub run_of : Stepped → List Step → Stepped
run_of stepped [] = stepped
run_of stepped (step ∷ steps) = run_of (step_with stepped.machine step) steps

-- what a whole run leaves: its answer, and the words of both lent buffers
pub record Replayed : Type 0 where
  pub answer : Answer
  pub image : List ℕ
  pub cells : List ℕ

-- a whole run. 21 where a lent buffer has not its length; else the image of the cut, and the cells of the reference model: demand 3.
unfoldable pub replay_of : List ℕ → List ℕ → List ℕ → List ℕ → Replayed
replay_of words steps image cells =
    cond (eqb (length image) image_words && eqb (length cells) cell_count)
    (record {
      answer = Ok 0;
      image = image_of (machine_after words (steps_of steps));
      cells = cells_of (book_after words (steps_of steps));
    })
    (record { answer = Err WrongLength; image = image; cells = cells })
