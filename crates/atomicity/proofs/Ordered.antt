-- Document 01's order on a history: it goes forward, more steps leave it as it was, and what puts a step before the one that comes next.
use Prim.Native.Nat.{ℕ, ◌<◌}
use mathlib.Core.Path.{◌≡◌, refl, sym, ◌∙◌, ap}
use mathlib.Core.Bool.{true, false, false≢true}
use mathlib.Core.List.{List, [], ◌∷◌, ◌++◌}
use mathlib.Core.Logic.{◌⊎◌, inl, inr, ⊎_elim, by_cases}
use native.Mathlib.Decide.{dec_lt}
use native.Mathlib.Omega.{arith}
use lib.ListN.{length, get_or-append, get_or-eq_default, length-append}
use lib.Seq.{get_or-append_seam}
use Rattle.atomicity.specs.History.{Fed, no_step, step_at}
use Rattle.atomicity.specs.HappensBefore.{HappensBefore, in_thread, by_lock, through}

-- the history with one step more
abbrev pub and_then : List Fed → Fed → List Fed
and_then history step = history ++ (step ∷ [])

-- the steps of a history stay where they are when more come
pub step_stays : (history more : List Fed) (place : ℕ) → place < length history → step_at (history ++ more) place ≡ step_at history place
step_stays history more place inside = get_or-append history more no_step place inside

-- the step that comes next stands at the history's length
pub step-next : (history : List Fed) (step : Fed) → step_at (and_then history step) (length history) ≡ step
step-next history step = get_or-append_seam history step [] no_step

-- an accepted step stands in the history
pub accepted-inside : (history : List Fed) (place : ℕ) → (step_at history place).accepted ≡ true → place < length history
accepted-inside history place is_accepted =
    by_cases
    (dec_lt place (length history))
    (λ inside. inside)
    (λ outside. absurd
    (false≢true (sym (ap (λ (step : Fed). step.accepted) (get_or-eq_default history no_step (omega arith))) ∙ is_accepted)))

-- the order goes forward, over accepted steps
pub before_forward : {history : List Fed} {i j : ℕ} → HappensBefore history i j → i < j
before_forward (in_thread forward one other same) = forward
before_forward (by_lock forward one other same) = forward
before_forward (through {i} {j} {k} first second) =
    let a : i < j = before_forward first in
    let b : j < k = before_forward second in
    omega arith

pub before-accepted : {history : List Fed} {i j : ℕ} → HappensBefore history i j → (step_at history i).accepted ≡ true
before-accepted (in_thread forward one other same) = one
before-accepted (by_lock forward one other same) = one.is_accepted
before-accepted (through first second) = before-accepted first

pub after-accepted : {history : List Fed} {i j : ℕ} → HappensBefore history i j → (step_at history j).accepted ≡ true
after-accepted (in_thread forward one other same) = other
after-accepted (by_lock forward one other same) = other.is_accepted
after-accepted (through first second) = after-accepted second

module _ (history more : List Fed) where
  accepted-stays : (place : ℕ) → (step_at history place).accepted ≡ true → step_at (history ++ more) place ≡ step_at history place
  accepted-stays place is_accepted = step_stays history more place (accepted-inside history place is_accepted)

  -- what happens before stays so when more steps come
  pub before-stays : {i j : ℕ} → HappensBefore history i j → HappensBefore (history ++ more) i j
  before-stays (in_thread {i} {j} forward one other same) =
      in_thread
      forward
      (rw (accepted-stays i one) one)
      (rw (accepted-stays j other) other)
      (rw (accepted-stays i one, accepted-stays j other) same)
  before-stays (by_lock {i} {j} forward one other same) =
      let old = accepted-stays i one.is_accepted in
      let new = accepted-stays j other.is_accepted in
      by_lock
      forward
      (record { is_accepted = rw old one.is_accepted; is_kind = rw old one.is_kind })
      (record { is_accepted = rw new other.is_accepted; is_kind = rw new other.is_kind })
      (rw (old, new) same)
  before-stays (through first second) = through (before-stays first) (before-stays second)

  -- more steps put nothing more before an old step
  pub before-was : {i j : ℕ} → HappensBefore (history ++ more) i j → j < length history → HappensBefore history i j
  before-was (in_thread {i} {j} forward one other same) inside =
      let old = step_stays history more i (omega arith) in
      let new = step_stays history more j inside in
      in_thread forward (rw old at one) (rw new at other) (rw (old, new) at same)
  before-was (by_lock {i} {j} forward one other same) inside =
      let old = step_stays history more i (omega arith) in
      let new = step_stays history more j inside in
      by_lock
      forward
      (record { is_accepted = rw old at one.is_accepted; is_kind = rw old at one.is_kind })
      (record { is_accepted = rw new at other.is_accepted; is_kind = rw new at other.is_kind })
      (rw (old, new) at same)
  before-was (through {i} {j} {k} first second) inside =
      let forward : j < k = before_forward second in
      through (before-was first (omega arith)) (before-was second inside)

-- the step at a place is, or happens before, an accepted step of this sort
pub record Reaches (history : List Fed) (Sort : Fed → Type 0) (place : ℕ) : Type 0 where
  pub target : ℕ
  pub is_accepted : (step_at history target).accepted ≡ true
  pub is_sort : Sort (step_at history target)
  pub is_before : (place ≡ target) ⊎ HappensBefore history place target

-- a step of the thread
abbrev pub StepOf : ℕ → Fed → Type 0
StepOf thread step = step.thread ≡ thread

-- a RELEASE (6) of the lock
abbrev pub ReleaseOf : ℕ → Fed → Type 0
ReleaseOf lock step = (step.kind ≡ 6) × (step.place ≡ lock)

-- a step reaches its own thread
pub own-reaches : (history : List Fed) (place : ℕ) → (step_at history place).accepted ≡ true →
    Reaches history (StepOf (step_at history place).thread) place
own-reaches history place is_accepted = record { target = place; is_accepted = is_accepted; is_sort = refl; is_before = inl refl }

-- what happens before a step reaches what that step reaches
pub before-reaches : {history : List Fed} {Sort : Fed → Type 0} {i j : ℕ} → HappensBefore history i j →
    Reaches history Sort j → Reaches history Sort i
before-reaches before reached = record {
  target = reached.target;
  is_accepted = reached.is_accepted;
  is_sort = reached.is_sort;
  is_before = inr (⊎_elim (λ same. rw same at before) (λ goes_on. through before goes_on) reached.is_before);
}

module _ (history : List Fed) (next : Fed) where
  -- an accepted step is an old one, or the next
  pub old-or-next : (P : ℕ → Type 0) →
      ((place : ℕ) → place < length history → (step_at history place).accepted ≡ true → P place) →
      (next.accepted ≡ true → P (length history)) → (place : ℕ) →
      (step_at (and_then history next) place).accepted ≡ true → P place
  old-or-next P old new place is_accepted =
      by_cases
      (dec_lt place (length history))
      (λ inside. old place inside (rw (step_stays history (next ∷ []) place inside) at is_accepted))
      (λ outside.
      let is_last : place ≡ length history =
      omega (arith, simp length-append at (accepted-inside (and_then history next) place is_accepted)) in
      rw is_last (new (rw (is_last, step-next history next) at is_accepted)))

  -- an old step reaches what it reached
  pub reaches-stays : {Sort : Fed → Type 0} {place : ℕ} → Reaches history Sort place → Reaches (and_then history next) Sort place
  reaches-stays {Sort} {place} reached =
      let stays = accepted-stays history (next ∷ []) reached.target reached.is_accepted in
      record {
        target = reached.target;
        is_accepted = rw stays reached.is_accepted;
        is_sort = rw stays reached.is_sort;
        is_before = ⊎_elim (λ same. inl same) (λ before. inr (before-stays history (next ∷ []) before)) reached.is_before;
      }

  -- what is an old step, or happens before it, in the longer history is or does so in the old one
  at-or-before-was : {place target : ℕ} → target < length history →
      (place ≡ target) ⊎ HappensBefore (and_then history next) place target →
      (place ≡ target) ⊎ HappensBefore history place target
  at-or-before-was inside (inl same) = inl same
  at-or-before-was inside (inr before) = inr (before-was history (next ∷ []) before inside)

  -- what an old step reaches it reached, or it is the next step
  pub reaches-was : {Sort : Fed → Type 0} {place : ℕ} → place < length history →
      Reaches (and_then history next) Sort place →
      Reaches history Sort place ⊎ (Sort next × HappensBefore (and_then history next) place (length history))
  reaches-was {Sort} {place} inside reached = by_cases (dec_lt reached.target (length history)) old new
    where
      target_inside : reached.target < length (and_then history next)
      target_inside = accepted-inside (and_then history next) reached.target reached.is_accepted

      old : reached.target < length history →
          Reaches history Sort place ⊎ (Sort next × HappensBefore (and_then history next) place (length history))
      old target_old =
          let stays = step_stays history (next ∷ []) reached.target target_old in
          inl (record {
            target = reached.target;
            is_accepted = rw stays at reached.is_accepted;
            is_sort = rw stays at reached.is_sort;
            is_before = at-or-before-was target_old reached.is_before;
          })

      new : ¬ (reached.target < length history) →
          Reaches history Sort place ⊎ (Sort next × HappensBefore (and_then history next) place (length history))
      new target_new =
          let is_last : reached.target ≡ length history = omega (arith, simp length-append at target_inside) in
          inr (
            rw (is_last, step-next history next) at reached.is_sort,
            ⊎_elim (λ same. absurd (omega arith)) (λ before. rw is_last at before) reached.is_before,
          )

  -- the next step reaches only what it is itself
  pub next-reaches : {Sort : Fed → Type 0} → Reaches (and_then history next) Sort (length history) → Sort next
  next-reaches {Sort} reached =
      ⊎_elim (λ same. rw (← same, step-next history next) at reached.is_sort)
      (λ before. absurd (ahead (before_forward before))) reached.is_before
    where
      ahead : length history < reached.target → ⊥
      ahead forward = omega (arith, simp length-append at (accepted-inside (and_then history next) reached.target reached.is_accepted))

  -- nothing happens before a refused step
  pub refused-last : {place : ℕ} → next.accepted ≡ false → HappensBefore (and_then history next) place (length history) → ⊥
  refused-last is_refused before =
      false≢true (sym is_refused ∙ sym (ap (λ (step : Fed). step.accepted) (step-next history next)) ∙ after-accepted before)

  -- what reaches a step that happens before the next one happens before the next one
  from-target : {Sort : Fed → Type 0} {place : ℕ} (reached : Reaches history Sort place) →
      HappensBefore (and_then history next) reached.target (length history) →
      HappensBefore (and_then history next) place (length history)
  from-target reached last =
      ⊎_elim (λ same. rw same last) (λ before. through (before-stays history (next ∷ []) before) last) reached.is_before

  -- the next step comes after what its thread's earlier steps come after
  pub next-of-thread : {place : ℕ} → next.accepted ≡ true → Reaches history (StepOf next.thread) place →
      HappensBefore (and_then history next) place (length history)
  next-of-thread is_accepted reached =
      let stays = accepted-stays history (next ∷ []) reached.target reached.is_accepted in
      let last = step-next history next in
      from-target reached
      (in_thread (accepted-inside history reached.target reached.is_accepted) (rw stays reached.is_accepted)
      (rw last is_accepted) (rw (stays, last) reached.is_sort))

  -- a next ACQUIRE (4) comes after what the lock's earlier RELEASE steps come after
  pub next-of-lock : {place : ℕ} → next.accepted ≡ true → next.kind ≡ 4 →
      Reaches history (ReleaseOf next.place) place → HappensBefore (and_then history next) place (length history)
  next-of-lock is_accepted is_acquire reached =
      let stays = accepted-stays history (next ∷ []) reached.target reached.is_accepted in
      let last = step-next history next in
      from-target reached (by_lock
      (accepted-inside history reached.target reached.is_accepted)
      (record { is_accepted = rw stays reached.is_accepted; is_kind = rw stays reached.is_sort.0 })
      (record { is_accepted = rw last is_accepted; is_kind = rw last is_acquire })
      (rw (stays, last) reached.is_sort.1))

  -- what the next step comes after: by its thread, or by the lock that it takes
  abbrev pub ComesAfter : ℕ → Type 0
  ComesAfter place = Reaches history (StepOf next.thread) place ⊎ ((next.kind ≡ 4) × Reaches history (ReleaseOf next.place) place)

  last-comes-after : {i j : ℕ} → HappensBefore (and_then history next) i j → j ≡ length history → ComesAfter i
  last-comes-after (in_thread {i} {j} forward one other same) is_last =
      let stays = step_stays history (next ∷ []) i (omega arith) in
      inl (record {
        target = i;
        is_accepted = rw stays at one;
        is_sort = rw (stays, is_last, step-next history next) at same;
        is_before = inl refl;
      })
  last-comes-after (by_lock {i} {j} forward one other same) is_last =
      let stays = step_stays history (next ∷ []) i (omega arith) in
      inr (
        rw (is_last, step-next history next) at other.is_kind,
        record {
          target = i;
          is_accepted = rw stays at one.is_accepted;
          is_sort = (rw stays at one.is_kind, rw (stays, is_last, step-next history next) at same);
          is_before = inl refl;
        },
      )
  last-comes-after (through {i} {j} {k} first second) is_last =
      let forward : j < k = before_forward second in
      let before = before-was history (next ∷ []) first (omega arith) in
      ⊎_elim
      (λ reached. inl (before-reaches before reached))
      (λ reached. inr (reached.0, before-reaches before reached.1))
      (last-comes-after second is_last)

  -- whatever happens before the next step does so by its thread, or by the lock that it takes
  pub next-comes-after : {place : ℕ} → HappensBefore (and_then history next) place (length history) → ComesAfter place
  next-comes-after before = last-comes-after before refl
