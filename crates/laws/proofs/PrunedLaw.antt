-- The law on refusal 16: a lock's counter is the number of its accepted LOGREL steps whose region the reference model has committed.
use Prim.Native.Nat.{ℕ}
use mathlib.Core.Path.{◌≡◌, sym, ap, ◌∙◌}
use mathlib.Core.Bool.{Bool}
use mathlib.Core.List.{List}
use Rattle.std.specs.Prelude.{Some}
use lib.ListN.{length}
use Rattle.answer.specs.Lists.{count_below}
use Rattle.answer.proofs.BelowLaws.{count_below-same}
use Rattle.machine.specs.State.{Machine}
use Rattle.reference.specs.Reference.{joins, is_committed_at}
use Rattle.atomicity.specs.History.{Fed, step_at, book_before}
use Rattle.laws.specs.PrunedRegions.{ends_committed, PrunedLaw}
use Rattle.atomicity.proofs.Logged.{Entries}
use Rattle.atomicity.proofs.PrunedCounts.{pruned_test}
use Rattle.atomicity.proofs.Regions.{joined_place, joins_release}
use Rattle.atomicity.proofs.ReleaseSteps.{releases_agree}
use Rattle.atomicity.proofs.RunInvariant.{RunInvariant, book_of}
use Rattle.atomicity.proofs.RunInvariantHolds.{after_run}
use Rattle.atomicity.proofs.MachineInvariant.{Beginning, entries_of}

module _ {start : Beginning} {machine : Machine} {history : List Fed} (run_holds : RunInvariant start machine history) (lock : ℕ) where
  abbrev entries : Entries
  entries = entries_of start machine run_holds.ghost

  -- the step at the place is an accepted LOGREL of the lock, and its entry is below its thread's head
  abbrev is_pruned : ℕ → Bool
  is_pruned = pruned_test entries entries.head history lock

  -- an accepted LOGREL's region is committed just when its entry is below its thread's head
  committed-test : (place : ℕ) → ends_committed start.cells history lock place ≡ is_pruned place
  unfolding ends_committed
  committed-test place =
      releases_agree (step_at history place) lock _ _ (λ releases.
      let thread = (step_at history place).thread in
      let book = book_before start.cells history place in
      let joined_region : joins book (step_at history place).kind thread ≡ Some (joined_place book thread) =
      ap (λ (kind : ℕ). joins book kind thread) releases.is_kind ∙ joins_release book thread in
      let found =
      run_holds.joined place (joined_place book thread) (record { is_accepted = releases.is_accepted; joined_region = joined_region }) in
      rw joined_region (ap (is_committed_at (book_of start history).regions) (sym found.1) ∙ run_holds.regions.committed found.0))

  count-committed : count_below (length history) is_pruned ≡ count_below (length history) (ends_committed start.cells history lock)
  count-committed =
      count_below-same (length history) is_pruned (ends_committed start.cells history lock) (λ place below. sym (committed-test place))

pub pruned_law : PrunedLaw
pruned_law words steps lock in_range =
    let run_holds = after_run words steps in
    run_holds.machine_holds.counted.number lock ∙ count-committed run_holds lock
