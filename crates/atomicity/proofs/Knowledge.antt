-- What a clock knows: by their epochs, which steps happen before some step of a sort, or before the step that comes next.
use Prim.Native.Nat.{ℕ, suc, ◌<◌, ◌≤◌, max}
use mathlib.Core.Path.{◌≡◌, refl, sym, ◌∙◌}
use mathlib.Core.Bool.{true, false, false≢true}
use mathlib.Core.List.{List, [], ◌∷◌}
use mathlib.Core.Logic.{◌⊎◌, inl, inr, ⊎_elim, by_cases, ◌≢◌}
use native.Mathlib.Decide.{dec_le, ℕ_discrete}
use native.Mathlib.Omega.{arith}
use lib.ListN.{length}
use Rattle.atomicity.specs.History.{Fed, step_at}
use Rattle.atomicity.specs.HappensBefore.{HappensBefore}
use Rattle.atomicity.proofs.Ordered.{and_then, own-reaches, old-or-next, step_stays, step-next, Reaches, StepOf, ReleaseOf}
use Rattle.atomicity.proofs.Ordered.{reaches-stays, reaches-was, next-reaches, refused-last, next-of-thread, next-of-lock}
use Rattle.atomicity.proofs.Ordered.{next-comes-after}
use Rattle.atomicity.proofs.Epochs.{releases, epoch_at, epoch_stays, epoch_next}

-- the numbers, one for each thread, are at least the epochs of just those steps that reach a step of the sort
pub record Knows (history : List Fed) (Sort : Fed → Type 0) (numbers : ℕ → ℕ) : Type 0 where
  pub reaches : (place : ℕ) → (step_at history place).accepted ≡ true →
      epoch_at history place ≤ numbers (step_at history place).thread → Reaches history Sort place
  pub counts : (place : ℕ) → (step_at history place).accepted ≡ true → Reaches history Sort place →
      epoch_at history place ≤ numbers (step_at history place).thread

-- the numbers, one for each thread, are at least the epochs of just those steps that happen before the next step
pub record KnowsNext (history : List Fed) (next : Fed) (numbers : ℕ → ℕ) : Type 0 where
  pub before : (place : ℕ) → (step_at history place).accepted ≡ true →
      epoch_at history place ≤ numbers (step_at history place).thread →
      HappensBefore (and_then history next) place (length history)
  pub counts : (place : ℕ) → (step_at history place).accepted ≡ true →
      HappensBefore (and_then history next) place (length history) →
      epoch_at history place ≤ numbers (step_at history place).thread

module _ (history : List Fed) (next : Fed) where
  module _ (Sort : Fed → Type 0) (numbers : ℕ → ℕ) where
    -- what is to be shown of the old steps and of the next one
    knows_steps :
        ((place : ℕ) → place < length history → (step_at history place).accepted ≡ true →
        epoch_at history place ≤ numbers (step_at history place).thread →
        Reaches (and_then history next) Sort place) →
        ((place : ℕ) → place < length history → (step_at history place).accepted ≡ true →
        Reaches (and_then history next) Sort place →
        epoch_at history place ≤ numbers (step_at history place).thread) →
        (next.accepted ≡ true → suc (releases history next.thread) ≤ numbers next.thread →
        Reaches (and_then history next) Sort (length history)) →
        (next.accepted ≡ true → Reaches (and_then history next) Sort (length history) →
        suc (releases history next.thread) ≤ numbers next.thread) →
        Knows (and_then history next) Sort numbers
    knows_steps old_reaches old_counts next_reaches next_counts = record {
      reaches =
          old-or-next
          history
          next
          (λ place. epoch_at (and_then history next) place ≤ numbers (step_at (and_then history next) place).thread →
          Reaches (and_then history next) Sort place)
          (λ place inside is_accepted counted.
          old_reaches place inside is_accepted
          (rw (epoch_stays history (next ∷ []) place inside, step_stays history (next ∷ []) place inside) at counted))
          (λ is_accepted counted. next_reaches is_accepted (rw (epoch_next history next, step-next history next) at counted));
      counts =
          old-or-next
          history
          next
          (λ place. Reaches (and_then history next) Sort place →
          epoch_at (and_then history next) place ≤ numbers (step_at (and_then history next) place).thread)
          (λ place inside is_accepted reached.
          rw (epoch_stays history (next ∷ []) place inside, step_stays history (next ∷ []) place inside)
          (old_counts place inside is_accepted reached))
          (λ is_accepted reached. rw (epoch_next history next, step-next history next) (next_counts is_accepted reached));
    }

    -- a refused step changes nothing of what is known
    pub knows-refused : next.accepted ≡ false → Knows history Sort numbers → Knows (and_then history next) Sort numbers
    knows-refused is_refused knows =
        knows_steps
        (λ place inside is_accepted counted. reaches-stays history next (knows.reaches place is_accepted counted))
        (λ place inside is_accepted reached.
        ⊎_elim (knows.counts place is_accepted) (λ last. absurd (refused-last history next is_refused last.1))
        (reaches-was history next inside reached))
        (λ is_accepted counted. absurd (false≢true (sym is_refused ∙ is_accepted)))
        (λ is_accepted reached. absurd (false≢true (sym is_refused ∙ is_accepted)))

    -- a step of another sort changes nothing of what is known, where its thread's number is below its epoch
    pub knows-other : (Sort next → ⊥) → numbers next.thread ≤ releases history next.thread →
        Knows history Sort numbers → Knows (and_then history next) Sort numbers
    knows-other is_other is_below knows =
        knows_steps
        (λ place inside is_accepted counted. reaches-stays history next (knows.reaches place is_accepted counted))
        (λ place inside is_accepted reached.
        ⊎_elim (knows.counts place is_accepted) (λ last. absurd (is_other last.0)) (reaches-was history next inside reached))
        (λ is_accepted counted. absurd (omega arith))
        (λ is_accepted reached. absurd (is_other (next-reaches history next reached)))

    -- what is known of the next step is known of its sort, if all that reached the sort happens before it
    pub knows-next :
        next.accepted ≡ true →
        Sort next →
        ((place : ℕ) → (step_at history place).accepted ≡ true → Reaches history Sort place →
        HappensBefore (and_then history next) place (length history)) →
        suc (releases history next.thread) ≤ numbers next.thread →
        KnowsNext history next numbers →
        Knows (and_then history next) Sort numbers
    knows-next is_accepted is_sort old is_counted knows =
        knows_steps
        (λ place inside is_accepted counted. by_next (inr (knows.before place is_accepted counted)))
        (λ place inside is_accepted reached.
        knows.counts place is_accepted (⊎_elim (old place is_accepted) (λ last. last.1) (reaches-was history next inside reached)))
        (λ is_accepted counted. by_next (inl refl))
        (λ is_accepted reached. is_counted)
      where
        by_next : {place : ℕ} → (place ≡ length history) ⊎ HappensBefore (and_then history next) place (length history) →
            Reaches (and_then history next) Sort place
        by_next is_before = record {
          target = length history;
          is_accepted = rw (step-next history next) is_accepted;
          is_sort = rw (step-next history next) is_sort;
          is_before = is_before;
        }

  module _ (is_accepted : next.accepted ≡ true) (numbers : ℕ → ℕ) (knows : Knows history (StepOf next.thread) numbers) where
    -- what a thread knows is what happens before its next step, if that is no ACQUIRE (4)
    pub next_known : next.kind ≢ 4 → KnowsNext history next numbers
    next_known is_other = record {
      before = λ place was_accepted counted. next-of-thread history next is_accepted (knows.reaches place was_accepted counted);
      counts = λ place was_accepted last.
          ⊎_elim (knows.counts place was_accepted) (λ by_lock. absurd (is_other by_lock.0)) (next-comes-after history next last);
    }

    -- what happens before a thread's next ACQUIRE (4) is what the thread knows and what the lock's RELEASE steps knew
    pub next-acquire-known : (lock_numbers : ℕ → ℕ) → next.kind ≡ 4 →
        Knows history (ReleaseOf next.place) lock_numbers →
        KnowsNext history next (λ thread. max (numbers thread) (lock_numbers thread))
    next-acquire-known lock_numbers is_acquire lock_knows = record {
      before = λ place was_accepted counted.
          by_cases
          (dec_le (epoch_at history place) (numbers (step_at history place).thread))
          (λ own. next-of-thread history next is_accepted (knows.reaches place was_accepted own))
          (λ over. next-of-lock history next is_accepted is_acquire (lock_knows.reaches place was_accepted (omega arith)));
      counts = λ place was_accepted last.
          ⊎_elim
          (λ own. omega (arith, knows.counts place was_accepted own))
          (λ by_lock. omega (arith, lock_knows.counts place was_accepted by_lock.1))
          (next-comes-after history next last);
    }

  -- a thread's own number may rise: its own steps happen before its next one
  pub next-raised : (numbers raised : ℕ → ℕ) → next.accepted ≡ true →
      ((thread : ℕ) → thread ≢ next.thread → raised thread ≡ numbers thread) →
      numbers next.thread ≤ raised next.thread → KnowsNext history next numbers → KnowsNext history next raised
  next-raised numbers raised is_accepted others own knows = record {
    before = λ place was_accepted counted.
        by_cases
        (ℕ_discrete (step_at history place).thread next.thread)
        (λ same. next-of-thread history next is_accepted (rw same at (own-reaches history place was_accepted)))
        (λ differs. knows.before place was_accepted (rw (others (step_at history place).thread differs) at counted));
    counts = λ place was_accepted last.
        by_cases
        (ℕ_discrete (step_at history place).thread next.thread)
        (λ same. rw same (omega (arith, rw same at (knows.counts place was_accepted last))))
        (λ differs. rw (others (step_at history place).thread differs) (knows.counts place was_accepted last));
  }
