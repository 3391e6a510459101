-- Whatever lines the cache lets go just before a cut, recovery finds the same cells: those of the reference model, which evictions leave
-- alone.
use Rattle.std.specs.Prelude.{ℕ, ◌≤◌, ◌≡◌, length, take, Ok}
use mathlib.Core.List.{List, ◌++◌, map, flatten}
use Rattle.cache.specs.Cache.{cell_count}
use Rattle.machine.specs.Image.{image_of}
use Rattle.machine.specs.Runs.{Step, evict_steps}
use Rattle.recovery.specs.Recover.{recover_of}
use Rattle.reference.specs.Reference.{cells_of}
use Rattle.atomicity.specs.History.{machine_after, book_after}

-- each of these lines is evicted, in their order, by its eight EVICTCELL steps
unfoldable pub evictions : List ℕ → List Step
evictions lines = flatten (map evict_steps lines)

-- for every start, every list of steps and every cut: with any lines evicted just before it, in any order, also repeated or out of range,
-- recovery accepts the image and finds the cells of the reference model that was fed the steps before the cut, and no eviction
abbrev pub AnyEviction : Type 0
AnyEviction =
    (words : List ℕ) (steps : List Step) (cut : ℕ) (lines : List ℕ) (buffer : List ℕ) →
    cut ≤ length steps →
    length buffer ≡ cell_count →
    recover_of (image_of (machine_after words (take cut steps ++ evictions lines))) buffer ≡
    record { answer = Ok 0; buffer = cells_of (book_after words (take cut steps)) }
