-- Demand 3, as one claim over the start words, the list of steps, the place of the cut and the two lent buffers.
use Rattle.std.specs.Prelude.{ℕ, ◌≤◌, ◌≡◌, true, List, length, take, Ok}
use Rattle.answer.specs.Refusals.{Outcome}
use Rattle.cache.specs.Cache.{cell_count}
use Rattle.reader.specs.Stretch.{image_words}
use Rattle.machine.specs.Image.{cut_of}
use Rattle.machine.specs.Runs.{Step}
use Rattle.recovery.specs.Recover.{recover_of}
use Rattle.reference.specs.Reference.{cells_of, is_committed_at}
use Rattle.atomicity.specs.History.{start_cells, machine_after, history_after, book_after}
use Rattle.atomicity.specs.HappensBefore.{RegionBefore}

-- the cut after these steps, over a lent image
abbrev pub cut_after : List ℕ → List Step → List ℕ → Outcome
cut_after words steps image = cut_of (machine_after words steps) image

-- recovery of the words that the cut after these steps leaves, over a lent buffer for the cells
abbrev pub recovered_after : List ℕ → List Step → List ℕ → List ℕ → Outcome
recovered_after words steps image buffer = recover_of (cut_after words steps image).buffer buffer

-- what demand 3 says of a cut after these steps, whatever the two lent buffers held
pub record Recovers (words : List ℕ) (steps : List Step) (image buffer : List ℕ) : Type 0 where
  -- the cut accepts its buffer
  pub cuts : (cut_after words steps image).answer ≡ Ok 0
  -- "recovery accepts the image"
  pub accepts : (recovered_after words steps image buffer).answer ≡ Ok 0
  -- "all 128 recovered cells equal those of document 01's plain book"
  pub cells : (recovered_after words steps image buffer).buffer ≡ cells_of (book_after words steps)
  pub all128 : length (cells_of (book_after words steps)) ≡ cell_count
  -- "With each committed region, every region that happens before it is committed too."
  pub closed : (earlier later : ℕ) → RegionBefore (start_cells words) (history_after words steps) earlier later
      → is_committed_at (book_after words steps).regions later ≡ true → is_committed_at (book_after words steps).regions earlier ≡ true

-- demand 3: for every start, every list of steps and every cut, before the first step or after any. "Cut and recovery have buffers that 21
-- lets pass": 1,156 words for the image and 128 for the cells, of any content.
abbrev pub Demand3 : Type 0
Demand3 =
    (words : List ℕ) (steps : List Step) (cut : ℕ) (image buffer : List ℕ) →
    cut ≤ length steps →
    length image ≡ image_words → length buffer ≡ cell_count → Recovers words (take cut steps) image buffer
