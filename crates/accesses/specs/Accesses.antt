-- The accesses of cells, and which of them a clock puts before the next step of a thread.
-- An access is stamped with the own number in its thread's clock, so a stamp is 0 where there is no access.
use Rattle.std.specs.Prelude.{ℕ, ◌+◌, ◌*◌, Bool, not, get_or, set}
use Rattle.sizes.specs.Sizes.{thread_count}
use Rattle.answer.specs.Lists.{some_below}
use Rattle.clocks.specs.Clocks.{is_known}
use Rattle.accesses.specs.declared.Accesses.{Accesses}
use Rattle.clocks.specs.declared.Clock.{Clock}

-- where the stamp of a thread's last access of a cell stands
abbrev pub access_place : ℕ → ℕ → ℕ
access_place cell thread = cell * thread_count + thread

-- some thread's last access of the cell is unknown to the clock
abbrev pub has_unknown : Accesses → Clock → ℕ → Bool
has_unknown accesses clock cell =
    some_below thread_count (λ other. not (is_known clock (get_or accesses.stamps (access_place cell other) 0) other))

-- the accesses after a LOAD
unfoldable pub loaded_of : Accesses → ℕ → ℕ → ℕ → Accesses
loaded_of accesses thread cell stamp = record {
  stamps = set accesses.stamps (access_place cell thread) stamp;
  logged = accesses.logged;
  loggers = accesses.loggers;
}

-- the accesses after a LOG
unfoldable pub logged_cell_of : Accesses → ℕ → ℕ → ℕ → Accesses
logged_cell_of accesses thread cell stamp = record {
  stamps = set accesses.stamps (access_place cell thread) stamp;
  logged = set accesses.logged cell stamp;
  loggers = set accesses.loggers cell thread;
}
