-- The law on refusal 15: the machine finds the oldest region of a log finished exactly when the thread has a finished region that the
-- reference model has not committed, and then its oldest uncommitted region is one.
use Rattle.std.specs.Prelude.{None, Option, Some}
use Prim.Native.Nat.{ℕ, zero, suc, ◌+◌, ◌-◌, ◌≤◌, ◌<◌}
use native.Mathlib.Decide.{dec_lt}
use native.Mathlib.Nat.{not-suc-le-zero, zero-add, add-zero, add-suc, suc-add}
use native.Mathlib.Omega.{arith}
use mathlib.Core.Path.{◌≡◌, refl, sym, ap, ◌∙◌}
use mathlib.Core.Bool.{Bool, true, false, cond, not, ◌&&◌, true≢false}
use mathlib.Core.List.{List, [], ◌∷◌}
use mathlib.Core.Logic.{◌⊎◌, inl, inr, ⊎_elim, by_cases}
use lib.Dec.{eqb, ltb}
use borrow.Author.Tests.{ltb-false, ne_eqb}
use Rattle.sizes.specs.Sizes.{thread_count}
use Rattle.tail.specs.Tail.{is_releasing}
use Rattle.thread_log.specs.Entries.{live_count}
use Rattle.thread_log.specs.declared.Log.{Log}
use Rattle.event.specs.Events.{sync_count}
use Rattle.undo.specs.Entering.{live_event}
use Rattle.undo.specs.Regions.{is_acquire, is_release, oldest_region, is_finished}
use Rattle.event.specs.declared.Event.{Event}
use Rattle.event.specs.declared.Event.TheVariants.{Empty, Store, Acquire, Release}
use Rattle.event.specs.declared.SyncCount.{SyncCount}
use Rattle.undo.proofs.UndoInvariant.{UndoHolds}
use Rattle.undo.proofs.RegionLaws.{RegionIs, live-event, oldest-region}
use Rattle.machine.specs.State.{Machine}
use Rattle.reference.specs.Reference.{Region, empty_book, is_committed_at}
use Rattle.atomicity.specs.History.{Fed, step_at, fed_book, Joined}
use Rattle.atomicity.specs.HappensBefore.{Accepted}
use Rattle.laws.specs.RefusalLaws.{Took, Finished, released, followed, Unpruned, oldest_from, OldestFinished, FinishedLaw}
use Rattle.atomicity.proofs.Logged.{Entries, Made, IsReleaseOf}
use Rattle.atomicity.proofs.BookLaws.{region_at, First, NoneOf, is_uncommitted_of, first_rest, first_or_none}
use Rattle.atomicity.proofs.EntrySteps.{made-later, step-makes, stands}
use Rattle.laws.proofs.JoinedSteps.{step-joined}
use Rattle.atomicity.proofs.Locks.{Waits}
use Rattle.atomicity.proofs.Places.{made_by, made_grows}
use Rattle.atomicity.proofs.RegionsPrune.{run-together, oldest-uncommitted}
use Rattle.atomicity.proofs.Times.{step_kind_of}
use Rattle.atomicity.proofs.LogViews.{log_at}
use Rattle.atomicity.proofs.RunInvariant.{RunInvariant, book_of}
use Rattle.atomicity.proofs.RunInvariantHolds.{after_run}
use Rattle.atomicity.proofs.MachineInvariant.{Beginning, entries_of, locks_of}
use Rattle.atomicity.proofs.PruneKeeps.{finished_cases}

-- the thread's oldest uncommitted region is the first uncommitted one of its
oldest_first : (thread : ℕ) (regions : List Region) (place from : ℕ) → First (is_uncommitted_of thread) regions place
    → oldest_from thread regions from ≡ Some (from + place)
unfolding oldest_from
oldest_first thread [] place from first = absurd (not-suc-le-zero first.in_range)
oldest_first thread (region ∷ regions) zero from first = rw (first.holds, add-zero from)
oldest_first thread (region ∷ regions) (suc place) from first =
    rw (first.before 0 (omega arith), add-suc from place, ← suc-add from place)
    (oldest_first thread regions place (suc from) (first_rest first))

oldest_none : (thread : ℕ) (regions : List Region) (from : ℕ) → NoneOf (is_uncommitted_of thread) regions
    → oldest_from thread regions from ≡ None
unfolding oldest_from
oldest_none thread [] from fails = refl
oldest_none thread (region ∷ regions) from fails =
    rw (fails 0 (omega arith)) (oldest_none thread regions (suc from) (λ place under. fails (suc place) (omega arith)))

-- where the test that a region is owned and not committed holds, the region is not committed
not-committed : (owned committed : Bool) → (owned && not committed) ≡ true → committed ≡ false
not-committed true true both = absurd (true≢false (sym both))
not-committed true false both = refl
not-committed false committed both = absurd (true≢false (sym both))

-- the thread's oldest uncommitted region is not committed
oldest_committed : (thread place : ℕ) (regions : List Region) → oldest_from thread regions 0 ≡ Some place
    → is_committed_at regions place ≡ false
oldest_committed thread place regions is_oldest =
    ⊎_elim
    (λ (found : (first : ℕ) × First (is_uncommitted_of thread) regions first).
    let is_first = oldest_first thread regions found.0 0 found.1 in
    let same : 0 + found.0 ≡ place = cc in
    let here : found.0 ≡ place = omega arith in
    let owned = eqb (region_at regions found.0).thread thread in
    rw (← here) (not-committed owned (is_committed_at regions found.0) found.1.holds))
    (λ none_of. let is_none = oldest_none thread regions 0 none_of in cc)
    (first_or_none (is_uncommitted_of thread) regions)

oldest_unpruned : {cells : List ℕ} {history : List Fed} {thread : ℕ} → OldestFinished cells history thread → Unpruned cells history thread
oldest_unpruned {cells} {history} {thread} oldest = record {
  region = oldest.region;
  is_finished = oldest.is_finished;
  not_committed = oldest_committed thread oldest.region (fed_book (empty_book cells) history).regions oldest.is_oldest;
}

-- what a RELEASE entry says, and which entries an ACQUIRE (4) makes
a-release : (event : Event) → is_release event ≡ true → (lock count : ℕ) × (event ≡ Release lock (sync_count count))
a-release Empty ends = absurd (true≢false (sym ends))
a-release (Store cell old) ends = absurd (true≢false (sym ends))
a-release (Acquire lock count) ends = absurd (true≢false (sym ends))
a-release (Release lock count) ends = (lock, count.0, refl)

begins_kind : (event : Event) → is_acquire event ≡ true → step_kind_of event ≡ 4
begins_kind Empty begins = absurd (true≢false (sym begins))
begins_kind (Store cell old) begins = absurd (true≢false (sym begins))
begins_kind (Acquire lock count) begins = refl
begins_kind (Release lock count) begins = absurd (true≢false (sym begins))

kind_begins : (event : Event) → step_kind_of event ≡ 4 → is_acquire event ≡ true
kind_begins Empty is_kind = absurd (omega arith)
kind_begins (Store cell old) is_kind = absurd (omega arith)
kind_begins (Acquire lock count) is_kind = refl
kind_begins (Release lock count) is_kind = absurd (omega arith)

-- the oldest region ends in a RELEASE on which the thread is not closing
record EndsFreed (log : Log) : Type 0 where
  not_empty : 0 < oldest_region log
  is_end : is_release (live_event log (oldest_region log - 1)) ≡ true
  not_closing : is_releasing log.tail.releasing ≡ false

-- the test that the oldest region ends in a RELEASE on which the thread is not closing
abbrev ends_freed : Log → Bool
ends_freed log =
    cond (eqb (oldest_region log) 0) false
    (is_release (live_event log (oldest_region log - 1)) && not (is_releasing log.tail.releasing))

ends-freed : (log : Log) → EndsFreed log → ends_freed log ≡ true
ends-freed log freed =
    let some-entry = freed.not_empty in
    rw (ne_eqb (oldest_region log) 0 (λ is_none. omega arith), freed.is_end, freed.not_closing)

-- the oldest region is finished if an entry stands after it, or else it ends in a RELEASE on which the thread is not closing
finished_if : (log : Log) → (live_count log ≤ oldest_region log → EndsFreed log) → is_finished log ≡ true
unfolding is_finished
finished_if log ends = by-more (ltb (oldest_region log) (live_count log)) refl
  where
    by-more : (more : Bool) → ltb (oldest_region log) (live_count log) ≡ more → cond more true (ends_freed log) ≡ true
    by-more true is_more = refl
    by-more false is_not = ends-freed log (ends (ltb-false _ _ is_not))

module _ {start : Beginning} {machine : Machine} {history : List Fed} (run_holds : RunInvariant start machine history) (thread : ℕ)
    (in_range : thread < thread_count) where
  abbrev entries : Entries
  entries = entries_of start machine run_holds.ghost

  abbrev log : Log
  log = log_at machine.logs thread

  abbrev size : ℕ
  size = oldest_region log

  abbrev says : ℕ → Event
  says = run_holds.ghost.event thread

  abbrev regions : List Region
  regions = (book_of start history).regions

  -- the thread's last LSN after the step at this place
  abbrev stands_at : ℕ → ℕ
  stands_at place = made_by entries history thread (suc place)

  -- the region in which the thread's entry of this LSN stands is finished
  abbrev EntryFinished : ℕ → Type 0
  EntryFinished number = Finished start.cells history thread (run_holds.home thread number)

  holds : UndoHolds log says
  holds = run_holds.machine_holds.logs thread in_range

  region : RegionIs log says size
  region = oldest-region log says holds

  -- a RELEASE entry whose step was taken: its LOGREL joined its region, and its RELEASE came after that
  taken-finished : (number lock count : ℕ) → IsReleaseOf entries thread number lock count → count < (locks_of machine).count lock
      → EntryFinished number
  taken-finished number lock count is taken =
      let logrel = entries.time thread number in
      let step = run_holds.machine_holds.times.entry_step is in
      let is_logrel : Accepted history logrel 5 = record { is_accepted = step.is_accepted; is_kind = step.is_kind } in
      let is_made = step-makes run_holds.machine_holds.places step.is_made step.is_thread in
      let found = run_holds.machine_holds.places.released_by is taken in
      let release = found.0 in
      let entry = run_holds.machine_holds.places.release_at found.1 in
      let at_logrel : stands_at logrel ≡ number = rw step.is_thread at step.is_last in
      let at_release : stands_at release ≡ number = rw found.2 at found.3 in
      let later : logrel < release =
      by_cases
      (dec_lt logrel release)
      (λ before. before)
      (λ not_before.
      by_cases
      (dec_lt release logrel)
      (λ after. let more = made-later entries history thread release logrel after is_made in absurd (omega arith))
      (λ not_after.
      let same : logrel ≡ release = omega (arith, not_before, not_after) in
      let one = step.is_kind in
      let other : (step_at history logrel).kind ≡ 6 = rw same found.1.is_kind in
      absurd (omega arith))) in
      let of_lock = (step_at history release).place in
      let one : says number ≡ Release of_lock (sync_count entry.0) = rw (found.3, found.2) at entry.1.says in
      let other = is.says in
      let same_lock : of_lock ≡ lock = cc in
      released
      (step-joined run_holds is.made)
      (record { is_step = is_logrel; is_thread = step.is_thread })
      later
      (record { is_step = found.1; is_thread = found.2 })
      (same_lock ∙ sym step.is_place)

  -- a RELEASE entry that is not the thread's last one, or on which the thread is not closing, had its step taken
  ends-finished : (number : ℕ) → Made entries thread number → is_release (says number) ≡ true
      → (suc number < log.tail.next.0) ⊎ (is_releasing log.tail.releasing ≡ false) → EntryFinished number
  ends-finished number made ends free =
      let release = a-release (says number) ends in
      let is : IsReleaseOf entries thread number release.0 release.1 = record { made = made; says = release.2 } in
      taken-finished number release.0 release.1 is
      (⊎_elim
      (λ taken. taken)
      (λ (waits : Waits entries (locks_of machine) thread number release.0 release.1).
      absurd
      (⊎_elim
      (λ more. let is_last = waits.is_last in omega arith)
      (λ not_releasing. true≢false (sym (ap is_releasing waits.is_releasing) ∙ not_releasing))
      free))
      (run_holds.machine_holds.locks.state is))

  -- an entry that an ACQUIRE follows: the ACQUIRE's step came after its own
  begins-finished : (number : ℕ) → Made entries thread number → Made entries thread (suc number) → is_acquire (says (suc number)) ≡ true
      → EntryFinished number
  begins-finished number made made_next begins =
      let step = run_holds.machine_holds.times.entry_step (record { made = made; says = refl }) in
      let next = run_holds.machine_holds.times.entry_step (record { made = made_next; says = refl }) in
      let is_kind = next.is_kind ∙ begins_kind (says (suc number)) begins in
      followed
      (step-joined run_holds made)
      step.is_thread
      (run_holds.machine_holds.times.later thread number (suc number) made made_next (omega arith))
      (record { is_step = record { is_accepted = next.is_accepted; is_kind = is_kind }; is_thread = next.is_thread })

  -- where the oldest region is finished, its entries stand in the thread's oldest uncommitted region, and that is finished
  finished-only : is_finished log ≡ true → OldestFinished start.cells history thread
  finished-only finished =
      let cases = finished_cases log finished in
      let since = run_holds.machine_holds.begins thread in_range in
      let live = region.region_live in
      let bound = holds.head_next in
      let not_empty : 1 ≤ size = ⊎_elim (λ more. region.region_some (λ none. omega arith)) (λ ends. ends.0) cases in
      let first = log.head.0 in
      let last = first + size - 1 in
      let at_last : first + (size - 1) ≡ last = omega arith in
      let after : suc last ≡ first + size = omega arith in
      let made_first : Made entries thread first = record { since = since; below = omega arith } in
      let made_last : Made entries thread last = record { since = omega arith; below = omega arith } in
      let no_release : (number : ℕ) → first ≤ number → suc number < first + size → is_release (says number) ≡ false = λ number from to.
      region.no_release number from (omega arith) in
      let together : run_holds.home thread last ≡ run_holds.home thread first =
      ap (run_holds.home thread) (sym at_last) ∙
      run-together run_holds.regions first size since (omega arith) region.no_acquire no_release (size - 1) (omega arith) in
      let is_first = oldest_first thread regions (run_holds.home thread first) 0 (oldest-uncommitted run_holds.regions made_first) in
      record {
        region = run_holds.home thread first;
        is_oldest = is_first ∙ ap Some (zero-add (run_holds.home thread first));
        is_finished =
            rw (← together)
            (⊎_elim
            (λ more.
            let further : first + size < log.tail.next.0 = omega arith in
            ⊎_elim
            (λ begins. begins-finished last made_last (record { since = omega arith; below = omega arith }) (rw after begins))
            (λ ends. ends-finished last made_last ends (inl (omega arith)))
            (region.region_ends further))
            (λ ends.
            let is_end = sym (ap is_release (live-event log says holds (size - 1) last at_last made_last.below)) ∙ ends.1 in
            ends-finished last made_last is_end (inr ends.2))
            cases);
      }

  -- an entry of an uncommitted region is live
  live-entry : {number place : ℕ} → Made entries thread number → run_holds.home thread number ≡ place → is_committed_at regions place ≡ false
      → log.head.0 ≤ number
  live-entry {number} made is_home not_committed =
      ltb-false number log.head.0 (sym (run_holds.regions.committed made) ∙ (ap (is_committed_at regions) is_home ∙ not_committed))

  -- the entry at which a step of the thread that joined a region stands
  joined-entry : {step place : ℕ} → Joined start.cells history step place → (step_at history step).thread ≡ thread
      → Made entries thread (stands_at step) × (run_holds.home thread (stands_at step) ≡ place)
  joined-entry {step} {place} joined is_thread = rw is_thread at (run_holds.joined step place joined)

  -- a RELEASE step stands at a RELEASE entry of a count that the lock has passed
  release-entry : {release : ℕ} → Took history thread release 6
      → (lock count : ℕ) × IsReleaseOf entries thread (stands_at release) lock count × (count < (locks_of machine).count lock)
  release-entry {release} took =
      let entry = run_holds.machine_holds.places.release_at took.is_step in
      ((step_at history release).place, entry.0, rw took.is_thread at entry.1, entry.2)

  -- a RELEASE step at the thread's last entry: the thread is not closing
  not-closing : {release : ℕ} → Took history thread release 6 → suc (stands_at release) ≡ log.tail.next.0 → (releasing : Option ℕ)
      → log.tail.releasing ≡ releasing → is_releasing releasing ≡ false
  not-closing took is_last None is = refl
  not-closing {release} took is_last (Some lock) is =
      let entry = release-entry took in
      let waits = run_holds.machine_holds.locks.last_while is in
      let is_next = waits.1 in
      let same : waits.0 ≡ stands_at release = omega arith in
      let one = entry.2.says in
      let other : says (stands_at release) ≡ Release lock (sync_count ((locks_of machine).count lock)) = rw same at waits.2.says in
      let same_lock : entry.0 ≡ lock = cc in
      let same_count : sync_count entry.1 ≡ sync_count ((locks_of machine).count lock) = cc in
      let equal = ap (λ (count : SyncCount). count.0) same_count in
      let under : entry.1 < (locks_of machine).count lock = rw same_lock at entry.3 in
      absurd (omega arith)

  -- a finished region that is not committed has a live entry, so the oldest region is finished
  finished-always : Unpruned start.cells history thread → is_finished log ≡ true
  finished-always unpruned = finished_if log (λ full. by_way full unpruned.is_finished)
    where
      by_way : live_count log ≤ size → Finished start.cells history thread unpruned.region → EndsFreed log
      by_way full (followed {step} {acquire} joined is_thread later took) =
          let entry = joined-entry joined is_thread in
          let live = live-entry entry.0 entry.1 unpruned.not_committed in
          let places = run_holds.machine_holds.places in
          let is_made = step-makes places (places.made_at took.is_step (inl refl)) took.is_thread in
          let more = made-later entries history thread step acquire later is_made in
          let stood = stands places run_holds.machine_holds.times took.is_step took.is_thread (inl refl) in
          let begins = kind_begins (says (stands_at acquire)) (sym stood.is_kind ∙ took.is_step.is_kind) in
          let below = stood.made.below in
          absurd (true≢false (sym begins ∙ region.no_acquire (stands_at acquire) (omega arith) (omega arith)))
      by_way full (released {logrel} {release} joined is_logrel later took same_lock) =
          let entry = joined-entry joined is_logrel.is_thread in
          let live = live-entry entry.0 entry.1 unpruned.not_committed in
          let onward = made_grows entries history thread (suc logrel) (suc release) (omega arith) in
          let found = release-entry took in
          let ends : is_release (says (stands_at release)) ≡ true = ap is_release found.2.says in
          let below = found.2.made.below in
          let within = region.region_live in
          let is_last : suc (stands_at release) ≡ log.tail.next.0 =
          by_cases
          (dec_lt (stands_at release + 1) (log.head.0 + size))
          (λ before. absurd (true≢false (sym ends ∙ region.no_release (stands_at release) (omega arith) before)))
          (λ not_before. omega (arith, not_before)) in
          record {
            not_empty = omega arith;
            is_end = ap is_release (live-event log says holds (size - 1) (stands_at release) (omega arith) below) ∙ ends;
            not_closing = not-closing took is_last log.tail.releasing refl;
          }

pub finished_law : FinishedLaw
finished_law words steps thread in_range =
    let run_holds = after_run words steps in (
      record {
        only = λ finished. oldest_unpruned (finished-only run_holds thread in_range finished);
        always = finished-always run_holds thread in_range;
      },
      record {
        only = finished-only run_holds thread in_range;
        always = λ oldest. finished-always run_holds thread in_range (oldest_unpruned oldest);
      },
    )
