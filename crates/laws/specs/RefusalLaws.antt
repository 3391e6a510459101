-- Refusals 10, 12, 13 and 15 by document 01's words, over the history and the reference model that was fed it, and the laws that the
-- machine's tests decide them.
use Rattle.std.specs.Prelude.{ℕ, suc, ◌<◌, ◌≡◌, Bool, true, false, cond, not, ◌&&◌, List, [], ◌∷◌, eqb, Option, None, Some}
use Rattle.sizes.specs.Sizes.{thread_count}
use Rattle.cache.specs.Cache.{cell_count}
use Rattle.undo.specs.Regions.{is_logged, is_finished}
use Rattle.locks.specs.Locks.{is_held, is_held_by}
use Rattle.machine.specs.Clocks.{log_races}
use Rattle.machine.specs.Holds.{log_of, lock_of}
use Rattle.machine.specs.Runs.{Step}
use Rattle.reference.specs.Reference.{Region, empty_book, open_of, is_committed_at}
use Rattle.atomicity.specs.History.{Fed, step_at, fed_book, start_cells, machine_after, history_after, Joined}
use Rattle.atomicity.specs.HappensBefore.{Accepted}

-- the machine's test holds exactly when document 01's condition does
pub record Decides (test : Bool) (condition : Type 0) : Type 0 where
  pub only : test ≡ true → condition
  pub always : condition → test ≡ true

-- "the cell has .. an entry in this thread's current region": an accepted LOG (2) of the cell joined the thread's open region
pub record Logged (cells : List ℕ) (history : List Fed) (thread cell : ℕ) : Type 0 where
  pub region : ℕ
  pub is_open : open_of (fed_book (empty_book cells) history) thread ≡ Some region
  pub place : ℕ
  pub is_log : Accepted history place 2
  pub is_cell : (step_at history place).place ≡ cell
  pub is_joined : Joined cells history place region

-- the law on refusal 10, and on which LOG appends nothing: "the cell has, or has not, an entry in this thread's current region"
abbrev pub LoggedLaw : Type 0
LoggedLaw =
    (words : List ℕ) (steps : List Step) (thread cell : ℕ) →
    thread < thread_count →
    Decides (is_logged (log_of (machine_after words steps) thread) cell) (Logged (start_cells words) (history_after words steps) thread cell)

-- the law on a LOG of a cell with an entry in the current region: it would not race, so that its acceptance without 8 lets no race pass
abbrev pub RepeatLaw : Type 0
RepeatLaw =
    (words : List ℕ) (steps : List Step) (thread cell : ℕ) →
    thread < thread_count →
    cell < cell_count →
    is_logged (log_of (machine_after words steps) thread) cell ≡ true →
    log_races (machine_after words steps) thread cell ≡ false

-- the step at this place is an accepted one of this kind, of this lock
pub record OfLock (history : List Fed) (place kind lock : ℕ) : Type 0 where
  pub is_step : Accepted history place kind
  pub is_lock : (step_at history place).place ≡ lock

-- "ACQUIRE lock: takes it", "RELEASE lock: frees it": of the accepted ACQUIREs (4) and RELEASEs (6) of the lock, the last one is an
-- ACQUIRE, by the thread
pub record Holds (history : List Fed) (thread lock : ℕ) : Type 0 where
  pub place : ℕ
  pub is_acquire : OfLock history place 4 lock
  pub is_thread : (step_at history place).thread ≡ thread
  pub no_acquire_after : (later : ℕ) → place < later → OfLock history later 4 lock → ⊥
  pub no_release_after : (later : ℕ) → place < later → OfLock history later 6 lock → ⊥

-- the law on refusals 12 and 13: "12: held by anyone. 13: not held by this thread."
abbrev pub HolderLaw : Type 0
HolderLaw =
    (words : List ℕ) (steps : List Step) (lock : ℕ) →
    let holder = (lock_of (machine_after words steps) lock).holder in
    Decides (is_held holder) ((thread : ℕ) × Holds (history_after words steps) thread lock) ×
    ((thread : ℕ) → Decides (is_held_by holder thread) (Holds (history_after words steps) thread lock))

-- the step at this place is an accepted one of this kind, by this thread
pub record Took (history : List Fed) (thread place kind : ℕ) : Type 0 where
  pub is_step : Accepted history place kind
  pub is_thread : (step_at history place).thread ≡ thread

-- "It is finished when the RELEASE step was taken or the next ACQUIRE exists.": of a region of the thread
pub data Finished (cells : List ℕ) (history : List Fed) (thread region : ℕ) : Type 0 where
  -- a LOGREL (5) joined the region, and the thread's RELEASE (6) of that lock came after it
  released : {logrel release : ℕ} → Joined cells history logrel region → Took history thread logrel 5 → logrel < release
      → Took history thread release 6 → (step_at history release).place ≡ (step_at history logrel).place → Finished cells history thread region
  -- after a step that joined the region came an ACQUIRE (4) of the thread
  followed : {step acquire : ℕ} → Joined cells history step region → (step_at history step).thread ≡ thread → step < acquire
      → Took history thread acquire 4 → Finished cells history thread region

-- a region of the thread is finished and not pruned
pub record Unpruned (cells : List ℕ) (history : List Fed) (thread : ℕ) : Type 0 where
  pub region : ℕ
  pub is_finished : Finished cells history thread region
  pub not_committed : is_committed_at (fed_book (empty_book cells) history).regions region ≡ false

-- the place of the thread's oldest uncommitted region, counted from this number on: the one that PRUNE commits in the reference model
unfoldable pub oldest_from : ℕ → List Region → ℕ → Option ℕ
oldest_from thread [] place = None
oldest_from thread (region ∷ regions) place =
    cond (eqb region.thread thread && not region.is_committed) (Some place) (oldest_from thread regions (suc place))

-- the thread's oldest region that is not pruned is finished
pub record OldestFinished (cells : List ℕ) (history : List Fed) (thread : ℕ) : Type 0 where
  pub region : ℕ
  pub is_oldest : oldest_from thread (fed_book (empty_book cells) history).regions 0 ≡ Some region
  pub is_finished : Finished cells history thread region

-- the law on refusal 15: "no finished region is unpruned". Where one is, the oldest that is not pruned is finished, so what PRUNE commits
-- is "the thread's oldest finished region not yet pruned".
abbrev pub FinishedLaw : Type 0
FinishedLaw =
    (words : List ℕ) (steps : List Step) (thread : ℕ) →
    thread < thread_count →
    let finished = is_finished (log_of (machine_after words steps) thread) in
    Decides finished (Unpruned (start_cells words) (history_after words steps) thread) ×
    Decides finished (OldestFinished (start_cells words) (history_after words steps) thread)
