-- Which accesses the machine's clocks put before the next step of a thread.
use Rattle.std.specs.Prelude.{ℕ, Bool, not, get_or}
use Rattle.clocks.specs.Clocks.{clock_at, is_known}
use Rattle.accesses.specs.Accesses.{has_unknown}
use Rattle.machine.specs.Holds.{clock_of}
use Rattle.machine.specs.State.{Machine}

-- the stamp of an access that the thread takes next
abbrev pub stamp_now : Machine → ℕ → ℕ
stamp_now machine thread = clock_at (clock_of machine thread) thread

-- 8 for a LOAD: the cell's last LOG does not happen before it. (Accepted LOGs of a cell are in order, so the last one decides.)
unfoldable pub load_races : Machine → ℕ → ℕ → Bool
load_races machine thread cell =
    not
    (is_known
    (clock_of machine thread)
    (get_or machine.accesses.logged cell 0)
    (get_or machine.accesses.loggers cell 0))

-- 8 for a LOG: some thread's last access of the cell does not happen before it
unfoldable pub log_races : Machine → ℕ → ℕ → Bool
log_races machine thread cell = has_unknown machine.accesses (clock_of machine thread) cell
