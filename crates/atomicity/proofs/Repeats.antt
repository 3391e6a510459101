-- A LOG of a cell that its thread logged before and has not released since: no other thread accessed the cell in between, so the LOG does
-- not race, and the accesses that it would record are recorded already.
use Prim.Native.Nat.{ℕ, zero, suc, ◌+◌, ◌≤◌, ◌<◌}
use mathlib.Core.Path.{◌≡◌, refl, sym, ap, ◌∙◌}
use mathlib.Core.Bool.{Bool, true, false, cond, ◌&&◌}
use mathlib.Core.List.{List, [], ◌∷◌}
use mathlib.Core.Logic.{inr, ⊎_elim, by_cases}
use native.Mathlib.Decide.{ℕ_discrete}
use native.Mathlib.Omega.{arith}
use lib.Dec.{eqb}
use lib.ListN.{length, get_or, set, take}
use lib.Seq.{set-get_or}
use borrow.Author.Tests.{eqb-true}
use Rattle.sizes.specs.Sizes.{thread_count}
use Rattle.cache.specs.Cache.{cell_count}
use Rattle.accesses.specs.Accesses.{access_place, logged_cell_of}
use Rattle.clocks.specs.Clocks.{clock_at}
use Rattle.machine.specs.Clocks.{log_races}
use Rattle.machine.specs.Holds.{clock_of}
use Rattle.machine.specs.State.{Machine}
use Rattle.atomicity.specs.History.{Fed, step_at}
use Rattle.atomicity.specs.HappensBefore.{Accepted, HappensBefore}
use Rattle.atomicity.proofs.Ordered.{and_then, Reaches, StepOf, own-reaches, before-reaches, before_forward}
use Rattle.atomicity.proofs.Ordered.{before-accepted, after-accepted, next-of-thread}
use Rattle.atomicity.proofs.Epochs.{is_release_by, releases, epoch_at}
use Rattle.atomicity.proofs.AccessInvariant.{Took, AccessTo, LogOf, LastLog}
use Rattle.atomicity.proofs.Follows.{Follows, own-at_most}
use Rattle.atomicity.proofs.RaceTests.{log-race}

-- the step is no accepted RELEASE of the thread
no-release : (step : Fed) (thread : ℕ) → (step.accepted ≡ true → step.kind ≡ 6 → step.thread ≡ thread → ⊥) →
    is_release_by step thread ≡ false
no-release step thread is_none = by_tests step.accepted refl (eqb step.kind 6) refl (eqb step.thread thread) refl
  where
    by_tests : (a : Bool) → step.accepted ≡ a → (k : Bool) → eqb step.kind 6 ≡ k → (t : Bool) →
        eqb step.thread thread ≡ t → (a && k && t) ≡ false
    by_tests true is_accepted true is_kind true is_thread = absurd (is_none is_accepted (eqb-true _ _ is_kind) (eqb-true _ _ is_thread))
    by_tests true is_accepted true is_kind false is_thread = refl
    by_tests true is_accepted false is_kind t is_thread = refl
    by_tests false is_accepted k is_kind t is_thread = refl

-- the thread took no RELEASE from this place on
abbrev pub NoReleaseSince : List Fed → ℕ → ℕ → Type 0
NoReleaseSince history thread count =
    (place : ℕ) → count ≤ place → Accepted history place 6 → (step_at history place).thread ≡ thread → ⊥

-- then its RELEASE steps are those before that place
pub releases-before : (history : List Fed) (thread count : ℕ) → NoReleaseSince history thread count →
    releases (take count history) thread ≡ releases history thread
unfolding releases
releases-before [] thread zero is_none = refl
releases-before [] thread (suc count) is_none = refl
releases-before (step ∷ history) thread zero is_none =
    let rest =
    releases-before history thread zero (λ place from is. is_none (suc place) (omega arith)
    (record { is_accepted = is.is_accepted; is_kind = is.is_kind })) in
    rw (no-release step thread (λ is_accepted is_kind. is_none 0 (omega arith) (record { is_accepted = is_accepted; is_kind = is_kind })))
    (rest ∙ omega arith)
releases-before (step ∷ history) thread (suc count) is_none =
    ap (λ (more : ℕ). cond (is_release_by step thread) 1 0 + more)
    (releases-before history thread count (λ place from is. is_none (suc place) (omega arith)
    (record { is_accepted = is.is_accepted; is_kind = is.is_kind })))

-- the thread took a LOG of the cell, and no RELEASE since
pub record LoggedNow (history : List Fed) (thread cell : ℕ) : Type 0 where
  pub place : ℕ
  pub is_log : Took history (LogOf cell) place
  pub is_thread : (step_at history place).thread ≡ thread
  pub no_release : NoReleaseSince history thread place

module _ (machine : Machine) (history : List Fed) (follows : Follows machine history) (thread cell : ℕ) (is_thread : thread < thread_count)
    (is_cell : cell < cell_count) (now : LoggedNow history thread cell) where
  -- the thread's own number
  abbrev own : ℕ
  own = suc (releases history thread)

  -- it is the epoch of that LOG, and of every later step of the thread
  own-epoch : (place : ℕ) → now.place ≤ place → (step_at history place).thread ≡ thread → epoch_at history place ≡ own
  own-epoch place from is_own =
      ap (λ (t : ℕ). suc (releases (take place history) t)) is_own
      ∙ ap suc (releases-before history thread place (λ later since. now.no_release later (omega arith)))

  -- a step of the thread since then happens before no other thread's step, since no other clock has reached the thread's own number
  unreached : {earlier later : ℕ} → now.place ≤ earlier → (step_at history earlier).thread ≡ thread → HappensBefore history earlier later →
      (step_at history later).thread ≡ thread
  unreached {earlier} {later} from is_own before =
      by_cases
      (ℕ_discrete (step_at history later).thread thread)
      (λ same. same)
      (λ differs.
      let other = (step_at history later).thread in
      let is_other = follows.in_range later (after-accepted before) in
      absurd (omega (
        arith,
        own-epoch earlier from is_own,
        ap (clock_at (clock_of machine other)) is_own,
        (follows.clocked.threads other is_other).counts earlier (before-accepted before)
            (before-reaches before (own-reaches history later (after-accepted before))),
        follows.clocked.others other thread is_other (λ same. differs (sym same)),
      )))

  -- the cell's last LOG
  last : LastLog history cell (get_or machine.accesses.logged cell 0) (get_or machine.accesses.loggers cell 0)
  last =
      let logs = follows.accessed.logs cell is_cell in
      logs.last (λ is_none. logs.none is_none now.place now.is_log)

  -- it is the thread's own, and not older
  last-own : (now.place ≤ last.place) × ((step_at history last.place).thread ≡ thread)
  last-own =
      ⊎_elim
      (λ same. (omega arith, ap (λ (place : ℕ). (step_at history place).thread) (sym same) ∙ now.is_thread))
      (λ before. let forward = before_forward before in (omega arith, unreached (omega arith) now.is_thread before))
      (last.others_before now.place now.is_log)

  -- every access of the cell is the thread's own, or happens before one of its steps
  reaches-thread : (place : ℕ) → Took history (AccessTo cell) place → Reaches history (StepOf thread) place
  reaches-thread place took =
      ⊎_elim
      (λ same. rw same last_reaches)
      (λ either.
      ⊎_elim
      (λ before. before-reaches before last_reaches)
      (λ after. reaches-own place (after-accepted after) (unreached last-own.0 last-own.1 after))
      either)
      (last.ordered place took)
    where
      reaches-own : (place : ℕ) → (step_at history place).accepted ≡ true → (step_at history place).thread ≡ thread →
          Reaches history (StepOf thread) place
      reaches-own place is_accepted is_own = rw is_own at (own-reaches history place is_accepted)

      last_reaches : Reaches history (StepOf thread) last.place
      last_reaches = reaches-own last.place last.is_log.is_accepted last-own.1

  -- so all of them happen before the thread's next step
  pub all-before : (next : Fed) → next.accepted ≡ true → next.thread ≡ thread → (place : ℕ) → Took history (AccessTo cell) place →
      HappensBefore (and_then history next) place (length history)
  all-before next is_accepted is_next place took = next-of-thread history next is_accepted (rw is_next (reaches-thread place took))

  -- the thread's next LOG of the cell does not race
  pub never-races : log_races machine thread cell ≡ false
  never-races = by-test (log_races machine thread cell) refl
    where
      by-test : (races : Bool) → log_races machine thread cell ≡ races → races ≡ false
      by-test false fails = refl
      by-test true holds =
          let next : Fed = record { kind = 2; thread = thread; place = cell; value = 0; accepted = true } in
          let found = log-race machine history follows next refl is_thread (omega arith) cell is_cell holds in
          absurd (found.2 (all-before next refl refl found.0 found.1))

  -- the thread's last access of the cell has the thread's own number for its stamp
  stamp-own : get_or machine.accesses.stamps (access_place cell thread) 0 ≡ own
  stamp-own =
      let stamped = follows.accessed.stamps cell thread is_cell is_thread in
      let least =
      stamped.at_most now.place
      (record { is_accepted = now.is_log.is_accepted; is_sort = (inr now.is_log.is_sort.0, now.is_log.is_sort.1, now.is_thread) }) in
      let is_own = own-epoch now.place (omega arith) now.is_thread in
      let latest = stamped.latest (λ is_none. omega arith) in
      omega (
        arith,
        latest.2,
        own-at_most machine history follows thread is_thread latest.0 latest.1.is_accepted latest.1.is_sort.2,
      )

  -- the accesses would be recorded as they are
  pub recorded : logged_cell_of machine.accesses thread cell own ≡ machine.accesses
  unfolding logged_cell_of
  recorded =
      let accesses = machine.accesses in
      let stamps = same_set accesses.stamps (access_place cell thread) own stamp-own in
      let logged = same_set accesses.logged cell own (sym last.is_epoch ∙ own-epoch last.place last-own.0 last-own.1) in
      let loggers = same_set accesses.loggers cell thread (sym last.is_logger ∙ last-own.1) in
      λ i. record { stamps = stamps i; logged = logged i; loggers = loggers i }
    where
      same_set : (list : List ℕ) (place value : ℕ) → get_or list place 0 ≡ value → set list place value ≡ list
      same_set list place value is = ap (set list place) (sym is) ∙ set-get_or list place 0
