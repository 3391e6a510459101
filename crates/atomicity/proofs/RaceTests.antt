-- What the clock tests of a LOAD and a LOG tell on a machine whose clocks and accesses are those of a history: they are document 01's.
use Prim.Native.Nat.{ℕ, ◌<◌, ◌≤◌}
use mathlib.Core.Path.{◌≡◌, refl, ap}
use mathlib.Core.Bool.{true, false}
use mathlib.Core.List.{List, [], ◌∷◌}
use mathlib.Core.Logic.{◌⊎◌, inl, inr, ⊎_elim, by_cases, ◌≢◌}
use native.Mathlib.Decide.{ℕ_discrete}
use native.Mathlib.Omega.{arith}
use lib.ListN.{length, get_or}
use borrow.Author.Tests.{leb-true, leb-false, not-true, not-false}
use Rattle.sizes.specs.Sizes.{thread_count}
use Rattle.answer.proofs.BelowLaws.{some_below-none, some_below-found}
use Rattle.cache.specs.Cache.{cell_count}
use Rattle.clocks.specs.Clocks.{clock_at}
use Rattle.accesses.specs.Accesses.{access_place}
use Rattle.machine.specs.Clocks.{load_races, log_races}
use Rattle.machine.specs.Holds.{clock_of}
use Rattle.machine.specs.State.{Machine}
use Rattle.atomicity.specs.History.{Fed, step_at}
use Rattle.atomicity.specs.HappensBefore.{HappensBefore, through}
use Rattle.atomicity.specs.Races.{IsAccess, Conflict, Race, DecidesRaces}
use Rattle.atomicity.proofs.Ordered.{and_then, before-stays, own-reaches, step_stays, step-next, accepted-inside, next-of-thread}
use Rattle.atomicity.proofs.Epochs.{epoch_at}
use Rattle.atomicity.proofs.Knowledge.{KnowsNext}
use Rattle.atomicity.proofs.ClockInvariant.{clock-knows-next}
use Rattle.atomicity.proofs.AccessInvariant.{Logged, LastLog, Took, LogOf}
use Rattle.atomicity.proofs.Follows.{Follows}

module _ (machine : Machine) (history : List Fed) (follows : Follows machine history) (next : Fed)
    (is_accepted : next.accepted ≡ true) (is_thread : next.thread < thread_count) (not_acquire : next.kind ≢ 4) where
  knows : KnowsNext history next (clock_at (clock_of machine next.thread))
  knows = clock-knows-next machine.clocks machine.lock_clocks history next follows.clocked is_accepted is_thread not_acquire

  module _ (cell : ℕ) (is_cell : cell < cell_count) where
    logs : Logged history cell (get_or machine.accesses.logged cell 0) (get_or machine.accesses.loggers cell 0)
    logs = follows.accessed.logs cell is_cell

    -- a LOAD's test fails: all LOGs of the cell happen before the step
    pub load-ordered : load_races machine next.thread cell ≡ false → (place : ℕ) → Took history (LogOf cell) place →
        HappensBefore (and_then history next) place (length history)
    unfolding load_races
    load-ordered fails place took =
        by_cases
        (ℕ_discrete (get_or machine.accesses.logged cell 0) 0)
        (λ is_none. absurd (logs.none is_none place took))
        (λ option_is_some. by_last (logs.last option_is_some))
      where
        counted : get_or machine.accesses.logged cell 0 ≤
            clock_at (clock_of machine next.thread) (get_or machine.accesses.loggers cell 0)
        counted = leb-true _ _ (not-false _ fails)

        by_last : LastLog history cell (get_or machine.accesses.logged cell 0) (get_or machine.accesses.loggers cell 0) →
            HappensBefore (and_then history next) place (length history)
        by_last last =
            let last_before =
            knows.before last.place last.is_log.is_accepted
            (omega (arith, counted, last.is_epoch, ap (clock_at (clock_of machine next.thread)) last.is_logger)) in
            ⊎_elim (λ same. rw same last_before) (λ before. through (before-stays history (next ∷ []) before) last_before)
            (last.others_before place took)

    -- a LOAD's test holds: some LOG of the cell does not happen before the step
    pub load-race : load_races machine next.thread cell ≡ true →
        (place : ℕ) × Took history (LogOf cell) place × (HappensBefore (and_then history next) place (length history) → ⊥)
    unfolding load_races
    load-race holds = by_last (logs.last (λ is_none. omega (arith, uncounted)))
      where
        uncounted : clock_at (clock_of machine next.thread) (get_or machine.accesses.loggers cell 0) <
            get_or machine.accesses.logged cell 0
        uncounted = leb-false _ _ (not-true _ holds)

        by_last : LastLog history cell (get_or machine.accesses.logged cell 0) (get_or machine.accesses.loggers cell 0) →
            (place : ℕ) × Took history (LogOf cell) place × (HappensBefore (and_then history next) place (length history) → ⊥)
        by_last last = (
          last.place,
          last.is_log,
          λ before. omega (
            arith,
            uncounted,
            last.is_epoch,
            ap (clock_at (clock_of machine next.thread)) last.is_logger,
            knows.counts last.place last.is_log.is_accepted before,
          ),
        )

    -- a LOG's test fails: all accesses of the cell happen before the step
    pub log-ordered : log_races machine next.thread cell ≡ false → (place : ℕ) →
        (step_at history place).accepted ≡ true → IsAccess (step_at history place).kind →
        (step_at history place).place ≡ cell → HappensBefore (and_then history next) place (length history)
    unfolding log_races
    log-ordered fails place was_accepted is_access is_place = knows.before place was_accepted (omega (arith, stamped, counted))
      where
        thread : ℕ
        thread = (step_at history place).thread

        counted : get_or machine.accesses.stamps (access_place cell thread) 0 ≤ clock_at (clock_of machine next.thread) thread
        counted = leb-true _ _ (not-false _ (some_below-none thread_count _ fails thread (follows.in_range place was_accepted)))

        stamped : epoch_at history place ≤ get_or machine.accesses.stamps (access_place cell thread) 0
        stamped =
            (follows.accessed.stamps cell thread is_cell (follows.in_range place was_accepted)).at_most place
            (record { is_accepted = was_accepted; is_sort = (is_access, is_place, refl) })

    -- a LOG's test holds: some access of the cell does not happen before the step
    pub log-race : log_races machine next.thread cell ≡ true →
        (place : ℕ) × Took history (λ step. IsAccess step.kind × (step.place ≡ cell)) place ×
        (HappensBefore (and_then history next) place (length history) → ⊥)
    unfolding log_races
    log-race holds =
        let found = some_below-found thread_count _ holds in
        let uncounted : clock_at (clock_of machine next.thread) found.number <
        get_or machine.accesses.stamps (access_place cell found.number) 0 =
        leb-false _ _ (not-true _ found.holds) in
        let last = (follows.accessed.stamps cell found.number is_cell found.below).latest (λ is_none. omega arith) in (
          last.0,
          record { is_accepted = last.1.is_accepted; is_sort = (last.1.is_sort.0, last.1.is_sort.1) },
          λ before. omega (
            arith,
            last.2,
            ap (clock_at (clock_of machine next.thread)) last.1.is_sort.2,
            knows.counts last.0 last.1.is_accepted before,
          ),
        )

module _ (machine : Machine) (history : List Fed) (follows : Follows machine history) (thread cell : ℕ)
    (is_thread : thread < thread_count) (is_cell : cell < cell_count) where
  -- the access of the cell that the thread would take next
  abbrev next_step : ℕ → Fed
  next_step kind = record { kind = kind; thread = thread; place = cell; value = 0; accepted = true }

  -- an earlier access of the cell that does not happen before the next one is another thread's, and races with it
  races-with : (kind place : ℕ) → IsAccess kind → (step_at history place).accepted ≡ true →
      IsAccess (step_at history place).kind → (step_at history place).place ≡ cell →
      ((step_at history place).kind ≡ 2) ⊎ (kind ≡ 2) →
      (HappensBefore (and_then history (next_step kind)) place (length history) → ⊥) →
      Race (and_then history (next_step kind)) place (length history)
  races-with kind place is_later_access was_accepted is_access is_place one_is_log unordered =
      let next = next_step kind in
      let inside = accepted-inside history place was_accepted in
      let old = step_stays history (next ∷ []) place inside in
      let new = step-next history next in
      record {
        conflict = record {
          is_earlier = inside;
          is_accepted = rw old was_accepted;
          is_later_accepted = rw new;
          is_access = rw old is_access;
          is_later_access = rw new is_later_access;
          other_thread =
              rw (old, new) (λ same. unordered (next-of-thread history next refl (rw same at (own-reaches history place was_accepted))));
          same_cell = rw (old, new) is_place;
          one_is_log = rw (old, new) one_is_log;
        };
        unordered = unordered;
      }

  -- what is in conflict with the next access is an earlier access of the cell
  earlier-access : (kind place : ℕ) → Conflict (and_then history (next_step kind)) place (length history) →
      Took history (λ step. IsAccess step.kind × (step.place ≡ cell) × ((step.kind ≡ 2) ⊎ (kind ≡ 2))) place
  earlier-access kind place conflict =
      let next = next_step kind in
      let old = step_stays history (next ∷ []) place conflict.is_earlier in
      let new = step-next history next in
      record {
        is_accepted = rw old at conflict.is_accepted;
        is_sort = (rw old at conflict.is_access, rw (old, new) at conflict.same_cell, rw (old, new) at conflict.one_is_log);
      }

  -- the clock tests of the thread's next LOAD and next LOG of the cell are document 01's
  pub load-decides : DecidesRaces history 1 thread cell (load_races machine thread cell)
  load-decides = record {
    races = λ holds.
        let found = load-race machine history follows (next_step 1) refl is_thread (omega arith) cell is_cell holds in
        let is_log = found.1.is_sort in
        (found.0, races-with 1 found.0 (inl refl) found.1.is_accepted (inr is_log.0) is_log.1 (inl is_log.0) found.2);
    ordered = λ fails place conflict.
        let access = earlier-access 1 place conflict in
        let is_log : (step_at history place).kind ≡ 2 = ⊎_elim (λ is_log. is_log) (λ never. absurd (omega arith)) access.is_sort.2 in
        load-ordered machine history follows (next_step 1) refl is_thread (omega arith) cell is_cell fails place
        (record { is_accepted = access.is_accepted; is_sort = (is_log, access.is_sort.1) });
  }

  pub log-decides : DecidesRaces history 2 thread cell (log_races machine thread cell)
  log-decides = record {
    races = λ holds.
        let found = log-race machine history follows (next_step 2) refl is_thread (omega arith) cell is_cell holds in
        let is_access = found.1.is_sort in
        (found.0, races-with 2 found.0 (inr refl) found.1.is_accepted is_access.0 is_access.1 (inr refl) found.2);
    ordered = λ fails place conflict.
        let access = earlier-access 2 place conflict in
        log-ordered machine history follows (next_step 2) refl is_thread (omega arith) cell is_cell fails place
        access.is_accepted access.is_sort.0 access.is_sort.1;
  }
