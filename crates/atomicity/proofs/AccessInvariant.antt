-- The accesses' invariant: each stamp is the epoch of a thread's last access of a cell, and of a cell's last LOG, before which all its
-- other LOGs happen, and before or after which all its LOADs do.
use Prim.Native.Nat.{ℕ, suc, ◌<◌, ◌≤◌, ◌*◌}
use mathlib.Core.Path.{◌≡◌, refl, sym, ◌∙◌, ap}
use mathlib.Core.Bool.{true, false, false≢true}
use mathlib.Core.List.{List, [], ◌∷◌}
use mathlib.Core.Logic.{◌⊎◌, inl, inr, ⊎_elim, by_cases, ◌≢◌}
use native.Mathlib.Decide.{ℕ_discrete}
use native.Mathlib.Omega.{arith}
use lib.ListN.{length, get_or, set, replicate, get_or-replicate}
use lib.Seq.{get_or-set_same, get_or-set_other}
use Rattle.sizes.specs.Sizes.{thread_count}
use Rattle.cache.specs.Cache.{cell_count}
use Rattle.accesses.specs.Accesses.{access_place, loaded_of, logged_cell_of}
use Rattle.accesses.specs.declared.Accesses.{Accesses}
use Rattle.atomicity.specs.History.{Fed, step_at}
use Rattle.atomicity.specs.HappensBefore.{HappensBefore}
use Rattle.atomicity.specs.Races.{IsAccess}
use Rattle.atomicity.proofs.Ordered.{and_then, old-or-next, step_stays, step-next, accepted-inside, before-stays}
use Rattle.atomicity.proofs.Epochs.{releases, epoch_at, epoch_stays, epoch_next}
use Rattle.answer.proofs.ListCases.{set_cases}

-- an accepted step of this sort stands at the place
pub record Took (history : List Fed) (Sort : Fed → Type 0) (place : ℕ) : Type 0 where
  pub is_accepted : (step_at history place).accepted ≡ true
  pub is_sort : Sort (step_at history place)

-- an access of the cell by the thread
abbrev pub AccessOf : ℕ → ℕ → Fed → Type 0
AccessOf cell thread step = IsAccess step.kind × (step.place ≡ cell) × (step.thread ≡ thread)

-- an access of the cell
abbrev pub AccessTo : ℕ → Fed → Type 0
AccessTo cell step = IsAccess step.kind × (step.place ≡ cell)

-- a LOG (2) of the cell
abbrev pub LogOf : ℕ → Fed → Type 0
LogOf cell step = (step.kind ≡ 2) × (step.place ≡ cell)

-- the stamp is the epoch of the last step of the sort, and 0 where there is none
pub record Stamped (history : List Fed) (Sort : Fed → Type 0) (stamp : ℕ) : Type 0 where
  pub at_most : (place : ℕ) → Took history Sort place → epoch_at history place ≤ stamp
  pub latest : stamp ≢ 0 → (place : ℕ) × Took history Sort place × (epoch_at history place ≡ stamp)

-- a LOG of the cell, with its thread and epoch, before which all other LOGs happen, and every LOAD before it or after it
pub record LastLog (history : List Fed) (cell stamp logger : ℕ) : Type 0 where
  pub place : ℕ
  pub is_log : Took history (LogOf cell) place
  pub is_logger : (step_at history place).thread ≡ logger
  pub is_epoch : epoch_at history place ≡ stamp
  pub others_before : (other : ℕ) → Took history (LogOf cell) other → (other ≡ place) ⊎ HappensBefore history other place
  pub ordered : (other : ℕ) → Took history (AccessTo cell) other →
      (other ≡ place) ⊎ (HappensBefore history other place ⊎ HappensBefore history place other)

-- the stamp and the thread are those of the cell's last LOG, and the stamp is 0 where there is none
pub record Logged (history : List Fed) (cell stamp logger : ℕ) : Type 0 where
  pub none : stamp ≡ 0 → (place : ℕ) → Took history (LogOf cell) place → ⊥
  pub last : stamp ≢ 0 → LastLog history cell stamp logger

-- what the stamps say of a history
pub record Accessed (accesses : Accesses) (history : List Fed) : Type 0 where
  pub stamps : (cell thread : ℕ) → cell < cell_count → thread < thread_count →
      Stamped history (AccessOf cell thread) (get_or accesses.stamps (access_place cell thread) 0)
  pub logs : (cell : ℕ) → cell < cell_count → Logged history cell (get_or accesses.logged cell 0) (get_or accesses.loggers cell 0)

nothing_took : {Sort : Fed → Type 0} {place : ℕ} → Took [] Sort place → ⊥
nothing_took took = absurd (false≢true took.is_accepted)

-- nothing was accessed
pub accessed_start : Accessed
    (record { stamps = replicate (cell_count * thread_count) 0; logged = replicate cell_count 0; loggers = replicate cell_count 0 }) []
accessed_start = record {
  stamps = λ cell thread is_cell is_thread.
      rw (get_or-replicate {A = ℕ} (cell_count * thread_count) (access_place cell thread) 0 0 (omega arith)) (record {
        at_most = λ place took. absurd (nothing_took took);
        latest = λ option_is_some. absurd (option_is_some refl);
      });
  logs = λ cell is_cell. rw (get_or-replicate {A = ℕ} cell_count cell 0 0 is_cell) (record {
    none = λ is_none place took. nothing_took took;
    last = λ option_is_some. absurd (option_is_some refl);
  });
}

module _ (history : List Fed) (next : Fed) where
  -- a step of a sort stays one when the next step comes, and the next step is one if it is of the sort
  took-stays : {Sort : Fed → Type 0} {place : ℕ} → Took history Sort place → Took (and_then history next) Sort place
  took-stays {Sort} {place} took =
      let stays = step_stays history (next ∷ []) place (accepted-inside history place took.is_accepted) in
      record { is_accepted = rw stays took.is_accepted; is_sort = rw stays took.is_sort }

  took-next : {Sort : Fed → Type 0} → next.accepted ≡ true → Sort next → Took (and_then history next) Sort (length history)
  took-next is_accepted is_sort = record { is_accepted = rw (step-next history next) is_accepted; is_sort = rw (step-next history next) is_sort }

  took-epoch : {Sort : Fed → Type 0} {place : ℕ} → Took history Sort place → epoch_at (and_then history next) place ≡ epoch_at history place
  took-epoch {Sort} {place} took = epoch_stays history (next ∷ []) place (accepted-inside history place took.is_accepted)

  -- a step of a sort is an old one, or the next
  took-cases : (Sort : Fed → Type 0) (P : ℕ → Type 0) → ((place : ℕ) → Took history Sort place → P place) →
      (next.accepted ≡ true → Sort next → P (length history)) → (place : ℕ) → Took (and_then history next) Sort place →
      P place
  took-cases Sort P old new place took =
      old-or-next
      history
      next
      (λ place. Sort (step_at (and_then history next) place) → P place)
      (λ place inside is_accepted is_sort.
      old place (record { is_accepted = is_accepted; is_sort = rw (step_stays history (next ∷ []) place inside) at is_sort }))
      (λ is_accepted is_sort. new is_accepted (rw (step-next history next) at is_sort))
      place
      took.is_accepted
      took.is_sort

  -- a step that is refused or of another sort leaves the stamp what it is
  stamped-other : (Sort : Fed → Type 0) (stamp : ℕ) → (next.accepted ≡ true → Sort next → ⊥) →
      Stamped history Sort stamp → Stamped (and_then history next) Sort stamp
  stamped-other Sort stamp is_other stamped = record {
    at_most =
        took-cases
        Sort
        (λ place. epoch_at (and_then history next) place ≤ stamp)
        (λ place took. rw (took-epoch took) (stamped.at_most place took))
        (λ is_accepted is_sort. absurd (is_other is_accepted is_sort));
    latest = λ option_is_some.
        let found = stamped.latest option_is_some in
        (found.0, took-stays found.1, took-epoch found.1 ∙ found.2);
  }

  -- a step of the sort is the last one, and its epoch the stamp
  stamped-next : (Sort : Fed → Type 0) → next.accepted ≡ true → Sort next →
      ((place : ℕ) → Took history Sort place → epoch_at history place ≤ suc (releases history next.thread)) →
      Stamped (and_then history next) Sort (suc (releases history next.thread))
  stamped-next Sort is_accepted is_sort old = record {
    at_most =
        took-cases
        Sort
        (λ place. epoch_at (and_then history next) place ≤ suc (releases history next.thread))
        (λ place took. rw (took-epoch took) (old place took))
        (λ is_accepted is_sort. rw (epoch_next history next) (omega arith));
    latest = λ option_is_some. (length history, took-next is_accepted is_sort, epoch_next history next);
  }

  -- all LOGs of the cell happen before the next step
  abbrev pub LogsBefore : ℕ → Type 0
  LogsBefore cell = (place : ℕ) → Took history (LogOf cell) place → HappensBefore (and_then history next) place (length history)

  -- a step that is refused, of another cell, or a LOAD that all LOGs happen before leaves the last LOG what it is
  logged-other : (cell stamp logger : ℕ) → (next.accepted ≡ true → LogOf cell next → ⊥) →
      (next.accepted ≡ true → AccessTo cell next → LogsBefore cell) → Logged history cell stamp logger →
      Logged (and_then history next) cell stamp logger
  logged-other cell stamp logger is_other in_order logged = record {
    none = λ is_none. took-cases (LogOf cell) (λ place. ⊥) (logged.none is_none) is_other;
    last = λ option_is_some.
        let last = logged.last option_is_some in
        record {
          place = last.place;
          is_log = took-stays last.is_log;
          is_logger =
              rw (step_stays history (next ∷ []) last.place (accepted-inside history last.place last.is_log.is_accepted))
              last.is_logger;
          is_epoch = took-epoch last.is_log ∙ last.is_epoch;
          others_before =
              took-cases
              (LogOf cell)
              (λ other. (other ≡ last.place) ⊎ HappensBefore (and_then history next) other last.place)
              (λ other took.
              ⊎_elim (λ same. inl same) (λ before. inr (before-stays history (next ∷ []) before)) (last.others_before other took))
              (λ is_accepted is_log. absurd (is_other is_accepted is_log));
          ordered =
              took-cases
              (AccessTo cell)
              (λ other. (other ≡ last.place) ⊎
              (HappensBefore (and_then history next) other last.place ⊎ HappensBefore (and_then history next) last.place other))
              (λ other took.
              ⊎_elim
              (λ same. inl same)
              (λ either.
              inr
              (⊎_elim
              (λ before. inl (before-stays history (next ∷ []) before))
              (λ after. inr (before-stays history (next ∷ []) after))
              either))
              (last.ordered other took))
              (λ is_accepted is_access. inr (inr (in_order is_accepted is_access last.place last.is_log)));
        };
  }

  -- a LOG of the cell is the last one, if all accesses happen before it
  logged-next : (cell : ℕ) → next.accepted ≡ true → LogOf cell next →
      ((place : ℕ) → Took history (AccessTo cell) place → HappensBefore (and_then history next) place (length history)) →
      Logged (and_then history next) cell (suc (releases history next.thread)) next.thread
  logged-next cell is_accepted is_log old = record {
    none = λ is_none. absurd (omega arith);
    last = λ option_is_some. record {
      place = length history;
      is_log = took-next is_accepted is_log;
      is_logger = ap (λ (step : Fed). step.thread) (step-next history next);
      is_epoch = epoch_next history next;
      others_before =
          took-cases
          (LogOf cell)
          (λ other. (other ≡ length history) ⊎ HappensBefore (and_then history next) other (length history))
          (λ other took. inr (old other (record { is_accepted = took.is_accepted; is_sort = (inr took.is_sort.0, took.is_sort.1) })))
          (λ is_accepted is_log. inl refl);
      ordered =
          took-cases
          (AccessTo cell)
          (λ other. (other ≡ length history) ⊎
          (HappensBefore (and_then history next) other (length history) ⊎ HappensBefore (and_then history next) (length history) other))
          (λ other took. inr (inl (old other took)))
          (λ is_accepted is_access. inl refl);
    };
  }

  module _ (accesses : Accesses) (accessed : Accessed accesses history) where
    -- a refused step, and one that is no access, keep what the stamps say of the history
    pub accessed-refused : next.accepted ≡ false → Accessed accesses (and_then history next)
    accessed-refused is_refused = record {
      stamps = λ cell thread is_cell is_thread.
          stamped-other (AccessOf cell thread) (get_or accesses.stamps (access_place cell thread) 0)
          (λ is_accepted is_sort. absurd (false≢true (sym is_refused ∙ is_accepted)))
          (accessed.stamps cell thread is_cell is_thread);
      logs = λ cell is_cell.
          logged-other cell (get_or accesses.logged cell 0) (get_or accesses.loggers cell 0)
          (λ is_accepted is_sort. absurd (false≢true (sym is_refused ∙ is_accepted)))
          (λ is_accepted is_access. absurd (false≢true (sym is_refused ∙ is_accepted)))
          (accessed.logs cell is_cell);
    }

    pub accessed-plain : (IsAccess next.kind → ⊥) → Accessed accesses (and_then history next)
    accessed-plain is_other = record {
      stamps = λ cell thread is_cell is_thread.
          stamped-other (AccessOf cell thread) (get_or accesses.stamps (access_place cell thread) 0)
          (λ is_accepted is_sort. is_other is_sort.0) (accessed.stamps cell thread is_cell is_thread);
      logs = λ cell is_cell.
          logged-other cell (get_or accesses.logged cell 0) (get_or accesses.loggers cell 0)
          (λ is_accepted is_sort. is_other (inr is_sort.0))
          (λ is_accepted is_access. absurd (is_other is_access.0))
          (accessed.logs cell is_cell);
    }

    -- an accepted access is stamped with its epoch, and a LOG is the cell's last one, if all earlier ones happen before it
    module _ (is_accepted : next.accepted ≡ true) (is_thread : next.thread < thread_count)
        (is_cell : next.place < cell_count) (whole : length accesses.stamps ≡ cell_count * thread_count)
        (own_at_most : (place : ℕ) → Took history (AccessOf next.place next.thread) place →
        epoch_at history place ≤ suc (releases history next.thread)) where
      stamped-access : IsAccess next.kind → (cell thread : ℕ) → cell < cell_count → thread < thread_count →
          Stamped (and_then history next) (AccessOf cell thread)
          (get_or (set accesses.stamps (access_place next.place next.thread) (suc (releases history next.thread)))
          (access_place cell thread) 0)
      stamped-access is_access cell thread cell_in thread_in =
          set_cases
          accesses.stamps
          (access_place next.place next.thread)
          (suc (releases history next.thread))
          0
          (omega arith)
          (λ index stamp. index ≡ access_place cell thread → Stamped (and_then history next) (AccessOf cell thread) stamp)
          (λ same.
          let same_cell : next.place ≡ cell = omega arith in
          let same_thread : next.thread ≡ thread = omega arith in
          rw (← same_cell, ← same_thread) (stamped-next (AccessOf next.place next.thread) is_accepted (is_access, refl, refl) own_at_most))
          (λ index differs same.
          rw same (stamped-other (AccessOf cell thread) (get_or accesses.stamps (access_place cell thread) 0)
          (λ is_accepted is_sort. is_else index differs same is_sort) (accessed.stamps cell thread cell_in thread_in)))
          (access_place cell thread)
          refl
        where
          is_else : (index : ℕ) → index ≢ access_place next.place next.thread → index ≡ access_place cell thread →
              AccessOf cell thread next → ⊥
          is_else index differs same is_sort =
              let same_cell : next.place ≡ cell = is_sort.1 in
              let same_thread : next.thread ≡ thread = is_sort.2 in
              omega arith

      pub accessed-load : next.kind ≡ 1 → LogsBefore next.place →
          Accessed (loaded_of accesses next.thread next.place (suc (releases history next.thread))) (and_then history next)
      unfolding loaded_of
      accessed-load is_load in_order = record {
        stamps = stamped-access (inl is_load);
        logs = λ cell cell_in.
            logged-other cell (get_or accesses.logged cell 0) (get_or accesses.loggers cell 0)
            (λ is_accepted is_sort. not_log is_sort.0)
            (λ is_accepted is_access. rw (← is_access.1) in_order)
            (accessed.logs cell cell_in);
      }
        where
          not_log : next.kind ≡ 2 → ⊥
          not_log is_log = omega arith

      pub accessed-log : next.kind ≡ 2 → length accesses.logged ≡ cell_count →
          length accesses.loggers ≡ cell_count →
          ((place : ℕ) → Took history (AccessTo next.place) place → HappensBefore (and_then history next) place (length history)) →
          Accessed (logged_cell_of accesses next.thread next.place (suc (releases history next.thread))) (and_then history next)
      unfolding logged_cell_of
      accessed-log is_log whole_logged whole_loggers old = record {
        stamps = stamped-access (inr is_log);
        logs = λ cell cell_in.
            by_cases
            (ℕ_discrete cell next.place)
            (λ same. rw (
              same,
              get_or-set_same accesses.logged next.place (suc (releases history next.thread)) 0 (omega arith),
              get_or-set_same accesses.loggers next.place next.thread 0 (omega arith),
            )
            (logged-next next.place is_accepted (is_log, refl) old))
            (λ differs. rw (
              get_or-set_other accesses.logged next.place cell (suc (releases history next.thread)) 0 differs,
              get_or-set_other accesses.loggers next.place cell next.thread 0 differs,
            )
            (logged-other cell (get_or accesses.logged cell 0) (get_or accesses.loggers cell 0)
            (λ is_accepted is_sort. differs (sym is_sort.1))
            (λ is_accepted is_access. absurd (differs (sym is_access.1)))
            (accessed.logs cell cell_in)));
      }
