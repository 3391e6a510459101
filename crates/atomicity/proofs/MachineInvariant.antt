-- All that holds of a machine, the history that led to it, and what its entries ever said: the concerns together.
-- What is kept by each step is shown in the files that come after this one.
use Prim.Native.Nat.{ℕ, suc, ◌-◌, ◌<◌}
use native.Mathlib.Omega.{arith}
use mathlib.Core.Path.{◌≡◌, refl, sym, ap, ◌∙◌, subst}
use mathlib.Core.Bool.{Bool, true}
use mathlib.Core.List.{List}
use mathlib.Core.Logic.{◌⊎◌, inl, inr}
use lib.ListN.{length, get_or}
use Rattle.sizes.specs.Sizes.{thread_count}
use Rattle.cache.specs.Cache.{cached_at, persisted_at}
use Rattle.cache.specs.declared.Cache.{Cache}
use Rattle.cache.proofs.CacheLaws as CacheLaws
use Rattle.undo.specs.Regions.{is_acquire, is_release}
use Rattle.event.specs.declared.Event.{Event}
use Rattle.undo.proofs.UndoInvariant.{UndoHolds}
use Rattle.machine.specs.Holds.{lock_of}
use Rattle.machine.specs.State.{Machine}
use Rattle.machine.proofs.Sizes.{Sized}
use Rattle.atomicity.specs.History.{Fed}
use Rattle.atomicity.proofs.Logged.{Entries, Keeps, kept-is}
use Rattle.atomicity.proofs.Locks.{Locks, LocksHold, PrunesHold, SameLocks, locks_keep, prunes_keep}
use Rattle.atomicity.proofs.Cells.{Version, Contents, CellsHold}
use Rattle.atomicity.proofs.Places.{PlacesHold, NewPlace, LogStands, log_stands_grow, made_by, made-new, places-step}
use Rattle.atomicity.proofs.PrunedCounts.{Counted, counted_same, counted_longer}
use Rattle.atomicity.proofs.Times.{TimesHold, times_keep}
use Rattle.atomicity.proofs.LogViews.{log_at, view_of}
use Rattle.atomicity.proofs.Ordered.{and_then}

-- what a list of steps begins with: the cells, and each thread's last LSN given before
pub record Beginning : Type 0 where
  pub cells : List ℕ
  pub before : ℕ → ℕ

-- what no code holds: what each entry said and when it was made, which steps made one, and the versions of each cell
pub record Ghost : Type 0 where
  pub event : ℕ → ℕ → Event
  pub time : ℕ → ℕ → ℕ
  pub made : ℕ → Bool
  pub versions : ℕ → List Version

-- the machine's entries
abbrev pub entries_of : Beginning → Machine → Ghost → Entries
entries_of start machine ghost = view_of start.before machine.logs ghost.event ghost.time ghost.made

-- the machine's locks
abbrev pub locks_of : Machine → Locks
locks_of machine = record {
  releasing = λ thread. (log_at machine.logs thread).tail.releasing;
  holder = λ lock. (lock_of machine lock).holder;
  count = λ lock. (lock_of machine lock).count.0;
  pruned = λ lock. (lock_of machine lock).pruned.0;
}

-- the cells' contents
abbrev pub contents_of : Beginning → Cache → Contents
contents_of start cache = record {
  start = λ cell. get_or start.cells cell 0;
  cached = cached_at cache;
  persisted = persisted_at cache;
}

-- the head stands where a region begins: at the start, after a RELEASE, or at an ACQUIRE
pub data HeadAt (entries : Entries) (thread : ℕ) : Type 0 where
  at-start : entries.head thread ≡ suc (entries.before thread) → HeadAt entries thread
  after-release : suc (entries.before thread) < entries.head thread →
      is_release (entries.event thread (entries.head thread - 1)) ≡ true → HeadAt entries thread
  at-acquire : entries.head thread < entries.next thread →
      is_acquire (entries.event thread (entries.head thread)) ≡ true → HeadAt entries thread

pub record MachineInvariant (start : Beginning) (machine : Machine) (history : List Fed) (ghost : Ghost) : Type 0 where
  pub sized : Sized machine
  pub logs : (thread : ℕ) → thread < thread_count → UndoHolds (log_at machine.logs thread) (ghost.event thread)
  pub begins : (thread : ℕ) → thread < thread_count → start.before thread < (log_at machine.logs thread).head.0
  pub cache_sized : CacheLaws.Sized machine.cache
  pub durable_kept : CacheLaws.DurableKept machine.cache
  pub locks : LocksHold (entries_of start machine ghost) (locks_of machine)
  pub prunes : PrunesHold (entries_of start machine ghost) (locks_of machine)
  pub heads : (thread : ℕ) → thread < thread_count → HeadAt (entries_of start machine ghost) thread
  pub cells : CellsHold (entries_of start machine ghost) (contents_of start machine.cache) ghost.versions
  pub places : PlacesHold history (entries_of start machine ghost) (λ lock. (lock_of machine lock).count.0)
  pub times : TimesHold history (entries_of start machine ghost)
  pub counted : Counted (entries_of start machine ghost) (entries_of start machine ghost).head history
      (λ lock. (lock_of machine lock).pruned.0)

-- the step is no RELEASE, no ACQUIRE and no LOGREL, and a LOG only of a cell that the thread's region has an entry of
pub record Quiet (history : List Fed) (entries : Entries) (fed : Fed) : Type 0 where
  pub thread : fed.accepted ≡ true → fed.thread < thread_count
  pub no_release : fed.accepted ≡ true → fed.kind ≡ 6 → ⊥
  pub no_boundary : fed.accepted ≡ true → (fed.kind ≡ 4) ⊎ (fed.kind ≡ 5) → ⊥
  pub logged : fed.accepted ≡ true → fed.kind ≡ 2 →
      LogStands entries fed.thread (made_by entries history fed.thread (length history)) fed.place

-- a step that makes no entry leaves its thread's last LSN
pub last-kept : {history : List Fed} {old new : Entries} {counts : ℕ → ℕ} (fed : Fed) → Keeps old new (length history) →
    PlacesHold history old counts → (thread : ℕ) →
    made_by new (and_then history fed) thread (suc (length history)) ≡ made_by old history thread (length history)
last-kept {history} fed keeps holds thread =
    made-new history fed keeps.grows thread
    ∙ rw (keeps.made_still ∙ holds.not_yet (length history) (omega arith)) (omega arith)

-- the place of a quiet step
pub quiet-place : {history : List Fed} {fed : Fed} {old new : Entries} {counts after : ℕ → ℕ} → Quiet history old fed →
    Keeps old new (length history) → ((lock : ℕ) → after lock ≡ counts lock) → PlacesHold history old counts →
    NewPlace history fed old new counts after
quiet-place {history} {fed} quiet keeps same holds = record {
  grows = keeps.grows;
  thread = quiet.thread;
  next_new = λ thread in_range.
      rw (keeps.made_still ∙ holds.not_yet (length history) (omega arith)) (keeps.next_same thread ∙ omega arith);
  new_made = λ is_accepted is_kind. absurd (quiet.no_boundary is_accepted is_kind);
  new_log = λ is_accepted is_kind.
      rw (last-kept fed keeps holds fed.thread) (log_stands_grow keeps.grows (quiet.logged is_accepted is_kind));
  count_grows = λ lock. rw (same lock) (omega arith);
  new_release = λ is_accepted is_kind. absurd (quiet.no_release is_accepted is_kind);
  new_acquire = λ is_accepted is_kind. absurd (quiet.no_boundary is_accepted (inl is_kind));
  new_taken = λ {lock = lock} release taken. inl (kept-is keeps release, rw (same lock) at taken);
}

-- no entry more and the same heads: the head stands where it stood
pub head-kept : {old new : Entries} {now : ℕ} → Keeps old new now →
    ((thread : ℕ) → new.head thread ≡ old.head thread) →
    ((thread number : ℕ) → new.event thread number ≡ old.event thread number) → (thread : ℕ) → HeadAt old thread →
    HeadAt new thread
head-kept keeps heads events thread (at-start is_first) =
    at-start (heads thread ∙ (is_first ∙ ap (λ (given : ℕ → ℕ). suc (given thread)) (sym keeps.grows.before_same)))
head-kept keeps heads events thread (after-release more is_release) =
    after-release (rw (heads thread, keeps.grows.before_same) more) (rw (heads thread, events thread _) is_release)
head-kept keeps heads events thread (at-acquire less is_acquire) =
    at-acquire (rw (heads thread, keeps.next_same thread) less) (rw (heads thread, events thread _) is_acquire)

-- what a step that makes no entry and moves no head must show: what it does to the logs, the cache and the locks
pub record QuietStep (start : Beginning) (machine after : Machine) (history : List Fed) (fed : Fed) (ghost next : Ghost) : Type 0 where
  pub quiet : Quiet history (entries_of start machine ghost) fed
  pub same_event : next.event ≡ ghost.event
  pub same_time : next.time ≡ ghost.time
  pub same_made : next.made ≡ ghost.made
  pub sized : Sized after
  pub logs : (thread : ℕ) → thread < thread_count → UndoHolds (log_at after.logs thread) (ghost.event thread)
  pub cache_sized : CacheLaws.Sized after.cache
  pub durable_kept : CacheLaws.DurableKept after.cache
  pub keeps : Keeps (entries_of start machine ghost) (entries_of start after ghost) (length history)
  pub head_same : (thread : ℕ) → (log_at after.logs thread).head.0 ≡ (log_at machine.logs thread).head.0
  pub same_locks : SameLocks (locks_of machine) (locks_of after)
  pub pruned_same : (lock : ℕ) → (lock_of after lock).pruned.0 ≡ (lock_of machine lock).pruned.0
  pub cells : CellsHold (entries_of start after ghost) (contents_of start after.cache) next.versions

pub machine_quiet : {start : Beginning} {machine after : Machine} {history : List Fed} {fed : Fed} {ghost next : Ghost} →
    QuietStep start machine after history fed ghost next → MachineInvariant start machine history ghost →
    MachineInvariant start after (and_then history fed) next
machine_quiet {start} {machine} {after} {history} {fed} {ghost} {next} step machine_holds =
    let count_same : (lock : ℕ) → (lock_of after lock).count.0 ≡ (lock_of machine lock).count.0 = step.same_locks.count_same in
    let same : Ghost = record { event = ghost.event; time = ghost.time; made = ghost.made; versions = next.versions } in
    let made : MachineInvariant start after (and_then history fed) same = record {
      sized = step.sized;
      logs = step.logs;
      begins = λ thread in_range. omega (arith, machine_holds.begins thread in_range, step.head_same thread);
      cache_sized = step.cache_sized;
      durable_kept = step.durable_kept;
      locks = locks_keep step.keeps step.same_locks machine_holds.locks;
      prunes =
          prunes_keep step.keeps step.head_same step.pruned_same (λ lock. rw (count_same lock) (omega arith)) machine_holds.prunes;
      heads = λ thread in_range. head-kept step.keeps step.head_same (λ other number. refl) thread (machine_holds.heads thread in_range);
      cells = step.cells;
      places = places-step (quiet-place step.quiet step.keeps count_same machine_holds.places) machine_holds.places;
      times = times_keep fed step.keeps machine_holds.times;
      counted =
          counted_same step.head_same step.pruned_same
          (counted_longer fed step.keeps.grows
          (λ lock releases. absurd (step.quiet.no_boundary releases.is_accepted (inr releases.is_kind))) machine_holds.counted);
    } in
    subst
    (λ (g : Ghost). MachineInvariant start after (and_then history fed) g)
    (λ i. record {
      event = sym step.same_event i;
      time = sym step.same_time i;
      made = sym step.same_made i;
      versions = next.versions;
    })
    made
