-- Races by document 01's words, and the law that the machine's clocks decide them.
use Rattle.std.specs.Prelude.{ℕ, ◌<◌, ◌≡◌, Bool, true, false, List, [], ◌∷◌, ◌++◌, ◌⊎◌, ◌≢◌, length}
use Rattle.sizes.specs.Sizes.{thread_count}
use Rattle.cache.specs.Cache.{cell_count}
use Rattle.machine.specs.Clocks.{load_races, log_races}
use Rattle.machine.specs.Runs.{Step}
use Rattle.atomicity.specs.History.{Fed, step_at, machine_after, history_after}
use Rattle.atomicity.specs.HappensBefore.{HappensBefore}

-- "accesses (LOAD or LOG)": kinds 1 and 2
abbrev pub IsAccess : ℕ → Type 0
IsAccess kind = (kind ≡ 1) ⊎ (kind ≡ 2)

-- "Two accesses (LOAD or LOG) by different threads to one cell .. if one is a LOG": they are in conflict, the earlier first
pub record Conflict (history : List Fed) (earlier later : ℕ) : Type 0 where
  pub is_earlier : earlier < later
  pub is_accepted : (step_at history earlier).accepted ≡ true
  pub is_later_accepted : (step_at history later).accepted ≡ true
  pub is_access : IsAccess (step_at history earlier).kind
  pub is_later_access : IsAccess (step_at history later).kind
  pub other_thread : (step_at history earlier).thread ≢ (step_at history later).thread
  pub same_cell : (step_at history earlier).place ≡ (step_at history later).place
  pub one_is_log : ((step_at history earlier).kind ≡ 2) ⊎ ((step_at history later).kind ≡ 2)

-- two accesses in conflict "race if .. the earlier does not happen before the later"
pub record Race (history : List Fed) (earlier later : ℕ) : Type 0 where
  pub conflict : Conflict history earlier later
  pub unordered : HappensBefore history earlier later → ⊥

-- the history, with one more step that is accepted
abbrev pub then_accepted : List Fed → ℕ → ℕ → ℕ → List Fed
then_accepted history kind thread place =
    history ++ (record { kind = kind; thread = thread; place = place; value = 0; accepted = true } ∷ [])

-- the test is 8's: where it holds, the next step would race "with an earlier accepted access"; where not, every conflict is in order
pub record DecidesRaces (history : List Fed) (kind thread cell : ℕ) (test : Bool) : Type 0 where
  pub races : test ≡ true → (earlier : ℕ) × Race (then_accepted history kind thread cell) earlier (length history)
  pub ordered : test ≡ false → (earlier : ℕ) →
      Conflict (then_accepted history kind thread cell) earlier (length history) →
      HappensBefore (then_accepted history kind thread cell) earlier (length history)

-- the law on races: on the machine that a list of steps leads to, the clock tests of a LOAD (1) and a LOG (2) are document 01's
abbrev pub RaceLaw : Type 0
RaceLaw =
    (words : List ℕ) (steps : List Step) (thread cell : ℕ) →
    thread < thread_count →
    cell < cell_count →
    DecidesRaces (history_after words steps) 1 thread cell (load_races (machine_after words steps) thread cell) ×
    DecidesRaces (history_after words steps) 2 thread cell (log_races (machine_after words steps) thread cell)
