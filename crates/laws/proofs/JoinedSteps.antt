-- The step that made an entry joined the region in which the entry stands.
use Prim.Native.Nat.{ℕ}
use mathlib.Core.Path.{◌≡◌, refl}
use mathlib.Core.List.{List}
use Rattle.std.specs.Prelude.{Some}
use Rattle.event.specs.declared.Event.{Event}
use Rattle.machine.specs.State.{Machine}
use Rattle.reference.specs.Reference.{Book, joins}
use Rattle.atomicity.specs.History.{Fed, book_before, Joined}
use Rattle.atomicity.proofs.Logged.{Entries, Made}
use Rattle.atomicity.proofs.Regions.{joined_place, joins_log, joins_acquire, joins_release}
use Rattle.atomicity.proofs.Times.{Formed, a_store, an_acquire, a_release, step_kind_of}
use Rattle.atomicity.proofs.RunInvariant.{RunInvariant}
use Rattle.atomicity.proofs.MachineInvariant.{Beginning, entries_of}

-- the steps that make an entry join a region
joins-some : {event : Event} → Formed event → (book : Book) (thread : ℕ)
    → (region : ℕ) × (joins book (step_kind_of event) thread ≡ Some region)
joins-some (a_store in_range) book thread = (joined_place book thread, joins_log book thread)
joins-some (an_acquire in_range) book thread = (_, joins_acquire book thread)
joins-some (a_release in_range) book thread = (joined_place book thread, joins_release book thread)

module _ {start : Beginning} {machine : Machine} {history : List Fed} (run_holds : RunInvariant start machine history) where
  abbrev entries : Entries
  entries = entries_of start machine run_holds.ghost

  pub step-joined : {thread number : ℕ} → Made entries thread number
      → Joined start.cells history (entries.time thread number) (run_holds.home thread number)
  step-joined {thread} {number} made =
      let place = entries.time thread number in
      let step = run_holds.machine_holds.times.entry_step (record { made = made; says = refl }) in
      let book = book_before start.cells history place in
      let found = joins-some (run_holds.machine_holds.times.formed thread number made) book thread in
      let joined : Joined start.cells history place found.0 = record {
        is_accepted = step.is_accepted;
        joined_region = rw (step.is_kind, step.is_thread) found.1;
      } in
      let home : run_holds.home thread number ≡ found.0 =
      rw (step.is_last, step.is_thread) at (run_holds.joined place found.0 joined).1 in
      rw home joined
