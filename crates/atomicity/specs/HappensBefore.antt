-- Document 01's order on the accepted steps of a history, named by their places, and on the reference model's regions.
use Rattle.std.specs.Prelude.{ℕ, ◌<◌, ◌≡◌, true, List}
use Rattle.atomicity.specs.History.{Fed, step_at, Joined}

-- the step at this place is an accepted one of this kind
pub record Accepted (history : List Fed) (place kind : ℕ) : Type 0 where
  pub is_accepted : (step_at history place).accepted ≡ true
  pub is_kind : (step_at history place).kind ≡ kind

-- "Happens before: the least transitive relation over accepted steps holding one thread's earlier steps before its later ones, and each
-- RELEASE of a lock before every later ACQUIRE of it." 6 is RELEASE and 4 is ACQUIRE.
pub data HappensBefore (history : List Fed) : ℕ → ℕ → Type 0 where
  in_thread : {i j : ℕ} → i < j → (step_at history i).accepted ≡ true → (step_at history j).accepted ≡ true →
      (step_at history i).thread ≡ (step_at history j).thread → HappensBefore history i j
  by_lock : {i j : ℕ} → i < j → Accepted history i 6 → Accepted history j 4 →
      (step_at history i).place ≡ (step_at history j).place → HappensBefore history i j
  through : {i j k : ℕ} → HappensBefore history i j → HappensBefore history j k → HappensBefore history i k

-- "A region happens before another if some step of it happens before some step of the other."
pub record RegionBefore (cells : List ℕ) (history : List Fed) (earlier later : ℕ) : Type 0 where
  pub step : ℕ
  pub later_step : ℕ
  pub is_step : Joined cells history step earlier
  pub is_later_step : Joined cells history later_step later
  pub happens_before : HappensBefore history step later_step
