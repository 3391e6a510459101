-- The law on refusal 10, and on which LOGs append nothing: the machine finds a cell's entry in a thread's current region exactly when an
-- accepted LOG of the cell joined the region that the reference model has open for the thread.
use Rattle.std.specs.Prelude.{None, Option, Some}
use Prim.Native.Nat.{ℕ, suc, ◌-◌, ◌≤◌, ◌<◌}
use native.Mathlib.Decide.{dec_lt, ℕ_discrete}
use native.Mathlib.Omega.{arith}
use mathlib.Core.Path.{◌≡◌, refl, sym, ap, ◌∙◌}
use mathlib.Core.Bool.{Bool, true, false, false≢true}
use mathlib.Core.List.{List}
use mathlib.Core.Logic.{inl, inr, ⊎_elim, by_cases}
use Rattle.sizes.specs.Sizes.{thread_count}
use Rattle.ring.specs.declared.Lsn.{Lsn}
use Rattle.thread_log.specs.declared.Log.{Log}
use Rattle.undo.specs.Regions.{logged_of, is_found}
use Rattle.machine.specs.State.{Machine}
use Rattle.reference.specs.Reference.{Region}
use Rattle.atomicity.specs.History.{Fed, step_at}
use Rattle.laws.specs.RefusalLaws.{Logged, LoggedLaw}
use Rattle.atomicity.proofs.Logged.{Entries, Made}
use Rattle.atomicity.proofs.BookLaws.{region_at}
use Rattle.atomicity.proofs.Cells.{NoBoundaryAfter}
use Rattle.laws.proofs.JoinedSteps.{step-joined}
use Rattle.atomicity.proofs.Places.{LogStands, made_by}
use Rattle.atomicity.proofs.Regions.{RegionsHold, Unended, Boundary, open-current, open_is, open-is-none, unended_or_not}
use Rattle.atomicity.proofs.LogViews.{log_at}
use Rattle.atomicity.proofs.RunInvariant.{RunInvariant, book_of}
use Rattle.atomicity.proofs.RunInvariantHolds.{after_run}
use Rattle.atomicity.proofs.MachineInvariant.{Beginning, entries_of}
use Rattle.atomicity.proofs.QuietStepsKeep.{logged-entry}
use Rattle.atomicity.proofs.AppendsKeep.{nowhere-current}

-- where an entry stands in the region of a later one, no region begins or ends between them
module _ {entries : Entries} {regions : List Region} {home : ℕ → ℕ → ℕ} {thread number last : ℕ}
    (holds : RegionsHold entries regions home) (made : Made entries thread number)
    (unended : Unended entries thread last) (same : home thread number ≡ home thread last) where
  -- no region ends from an entry on up to a later one in whose region it stands
  no-boundary : (between : ℕ) → number ≤ between → between < last → Boundary entries thread between → ⊥
  no-boundary between from to boundary =
      let since = made.since in
      let below = unended.made.below in
      let here : Made entries thread between = record { since = omega arith; below = omega arith } in
      let next : Made entries thread (suc between) = record { since = omega arith; below = omega arith } in
      let one = holds.grows made here from in
      let two = holds.next here next boundary in
      let three = holds.grows next unended.made to in
      omega arith

  not-true : {value : Bool} → (value ≡ true → ⊥) → value ≡ false
  not-true {value = true} never = absurd (never refl)
  not-true {value = false} never = refl

  current-entry : NoBoundaryAfter entries thread number
  current-entry later after made_later =
      let is_last = unended.is_last in
      let below = made_later.below in (
        not-true (λ begins.
            let place : suc (later - 1) ≡ later = omega arith in
            no-boundary (later - 1) (omega arith) (omega arith) (inr (rw place begins))),
        by_cases
            (ℕ_discrete later last)
            (λ at_last. rw at_last unended.no_release)
            (λ before. not-true (λ ends. no-boundary later (omega arith) (omega (arith, before)) (inl ends))),
      )

module _ {start : Beginning} {machine : Machine} {history : List Fed} (run_holds : RunInvariant start machine history) (thread cell : ℕ)
    (in_range : thread < thread_count) where
  abbrev entries : Entries
  entries = entries_of start machine run_holds.ghost

  abbrev log : Log
  log = log_at machine.logs thread

  logged-only : (found : Option Lsn) → logged_of log cell ≡ found → is_found found ≡ true → Logged start.cells history thread cell
  logged-only None is is_found = absurd (false≢true is_found)
  logged-only (Some number) is is_found =
      let found = logged-entry run_holds.machine_holds thread cell 0 in_range number is in
      let step = run_holds.machine_holds.times.entry_step found.1 in
      record {
        region = run_holds.home thread number.0;
        is_open = open-current (book_of start history) run_holds.regions found.1 found.2;
        place = entries.time thread number.0;
        is_log = record { is_accepted = step.is_accepted; is_kind = step.is_kind };
        is_cell = step.is_place;
        is_joined = step-joined run_holds found.1.made;
      }

  logged-always : (found : Option Lsn) → logged_of log cell ≡ found → Logged start.cells history thread cell → is_found found ≡ true
  logged-always (Some number) is logged = refl
  logged-always None is logged =
      ⊎_elim
      (λ goes_on. absurd (nowhere goes_on.0 goes_on.1))
      (λ ended. let is_none = open-is-none (book_of start history) run_holds.regions ended in let is_open = logged.is_open in cc)
      (unended_or_not entries thread)
    where
      nowhere : (last : ℕ) → Unended entries thread last → ⊥
      nowhere last unended =
          let place = logged.place in
          let made = run_holds.joined place logged.region logged.is_joined in
          let is_open = logged.is_open in
          let opened = open_is (book_of start history) run_holds.regions unended in
          let same : logged.region ≡ run_holds.home thread last = cc in
          let owner = run_holds.regions.owner made.0 in
          let owner_last = run_holds.regions.owner unended.made in
          let is_thread : (step_at history place).thread ≡ thread =
          sym owner ∙ (ap (λ (place : ℕ). (region_at (book_of start history).regions place).thread) (made.1 ∙ same) ∙ owner_last) in
          let stood : LogStands entries thread (made_by entries history thread (suc place)) cell =
          rw (is_thread, logged.is_cell) at (run_holds.machine_holds.places.log_at logged.is_log) in
          let home : run_holds.home thread (made_by entries history thread (suc place)) ≡ logged.region = rw is_thread at made.1 in
          let current = current-entry run_holds.regions stood.is_last unended (home ∙ same) in
          nowhere-current run_holds.machine_holds thread cell 0 in_range is stood.is_entry (λ later after made_later.
          by_cases
          (dec_lt (made_by entries history thread (suc place)) later)
          (λ beyond. current later beyond made_later)
          (λ not_beyond. stood.no_boundary later after (omega (arith, not_beyond))))

pub logged_law : LoggedLaw
logged_law words steps thread cell in_range =
    let run_holds = after_run words steps in
    record {
      only = logged-only run_holds thread cell in_range _ refl;
      always = logged-always run_holds thread cell in_range _ refl;
    }
