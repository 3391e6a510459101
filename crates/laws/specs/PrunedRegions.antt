-- The number that refusal 16 compares, by document 01's words, and the law that the machine's counter is it.
use Rattle.std.specs.Prelude.{ℕ, ◌<◌, ◌≡◌, Bool, false, ◌&&◌, List, length, eqb, Option, None, Some}
use Rattle.sizes.specs.Sizes.{lock_count}
use Rattle.answer.specs.Lists.{count_below}
use Rattle.machine.specs.Holds.{lock_of}
use Rattle.machine.specs.Runs.{Step}
use Rattle.reference.specs.Reference.{Book, empty_book, joins, is_committed_at}
use Rattle.atomicity.specs.History.{Fed, step_at, fed_book, start_cells, machine_after, history_after, book_before}

-- the region at this place is committed, where there is one
abbrev pub is_committed_in : Book → Option ℕ → Bool
is_committed_in book None = false
is_committed_in book (Some place) = is_committed_at book.regions place

-- the step at this place is an accepted LOGREL (5) of the lock, and the region that it joined, and so ended, is committed by now
unfoldable pub ends_committed : List ℕ → List Fed → ℕ → ℕ → Bool
ends_committed cells history lock place =
    (step_at history place).accepted &&
    eqb (step_at history place).kind 5 &&
    eqb (step_at history place).place lock &&
    is_committed_in
    (fed_book (empty_book cells) history)
    (joins (book_before cells history place) (step_at history place).kind (step_at history place).thread)

-- "regions ending in a RELEASE of that lock are pruned": how many. A region ends in at most one RELEASE.
abbrev pub pruned_releases : List ℕ → List Fed → ℕ → ℕ
pruned_releases cells history lock = count_below (length history) (ends_committed cells history lock)

-- the law on refusal 16: a lock's counter is how many regions that end in a RELEASE of it are pruned
abbrev pub PrunedLaw : Type 0
PrunedLaw =
    (words : List ℕ) (steps : List Step) (lock : ℕ) →
    lock < lock_count →
    (lock_of (machine_after words steps) lock).pruned.0 ≡
    pruned_releases (start_cells words) (history_after words steps) lock
