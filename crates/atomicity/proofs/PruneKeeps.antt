-- PRUNE keeps what holds of a machine and its history.
use Rattle.std.specs.Prelude.{None}
use Prim.Native.Nat.{ℕ, suc, ◌+◌, ◌-◌, ◌≤◌, ◌<◌}
use native.Mathlib.Decide.{dec_lt, ℕ_discrete}
use native.Mathlib.Omega.{arith}
use mathlib.Core.Path.{◌≡◌, refl, sym, ap, ◌∙◌, subst}
use mathlib.Core.Bool.{Bool, true, false, cond, not, ◌&&◌, true≢false}
use mathlib.Core.List.{List}
use mathlib.Core.Logic.{◌⊎◌, inl, inr, ⊎_elim, by_cases}
use lib.ListN.{length, get_or, set, length-set}
use lib.Dec.{eqb, ltb}
use borrow.Author.Tests.{ltb-true, ltb-false, eqb-false, not-true, not-false}
use Rattle.sizes.specs.Sizes.{thread_count, lock_count}
use Rattle.answer.proofs.RefusalLaws.{AllFail}
use Rattle.answer.proofs.BelowLaws.{some_below-none}
use Rattle.cache.specs.Cache.{is_durable}
use Rattle.event.specs.Events.{sync_count}
use Rattle.undo.specs.Entering.{live_event}
use Rattle.thread_log.specs.Entries.{live_count, drop_of}
use Rattle.undo.specs.Regions.{is_acquire, is_release, oldest_region, is_finished}
use Rattle.tail.specs.Tail.{is_releasing}
use Rattle.event.specs.declared.Event.{Event}
use Rattle.event.specs.declared.Event.TheVariants.{Empty, Store, Acquire, Release}
use Rattle.thread_log.specs.declared.Log.{Log}
use Rattle.event.specs.declared.SyncCount.{SyncCount}
use Rattle.undo.proofs.UndoInvariant.{UndoHolds, prune-holds}
use Rattle.undo.proofs.RegionLaws.{RegionIs, live-event, oldest-region}
use Rattle.machine.specs.Effects.{prune_effect, count_pruned, effect}
use Rattle.locks.specs.Locks.{no_lock}
use Rattle.machine.specs.Holds.{lock_of, with_log}
use Rattle.kinds.specs.declared.Kind.TheVariants.{Prune as PRUNE}
use Rattle.prune.specs.Pruning.{awaits_release, logs_undurable}
use Rattle.locks.specs.declared.Lock.{Lock as LockState}
use Rattle.machine.specs.State.{Machine}
use Rattle.machine.proofs.AcceptedMeans.{releases-nothing, PruneAsked, prune_asked}
use Rattle.machine.proofs.StepLaws.{tests_of}
use Rattle.atomicity.specs.History.{Fed}
use Rattle.atomicity.proofs.Logged.{Entries, Made, Is, IsAcquireOf, Keeps}
use Rattle.atomicity.proofs.Locks.{SameLocks, locks_keep, EndsInRelease, prunes-prune}
use Rattle.atomicity.proofs.Cells.{Version, Chain, unlogged, linked, In, here, there, PersistCell, made-equal, unchanged, cells_keep, latest}
use Rattle.atomicity.proofs.HistoryRuns.{took_step}
use Rattle.atomicity.proofs.Places.{places-step}
use Rattle.atomicity.proofs.RegionsPrune.{PruneRegions}
use Rattle.atomicity.proofs.PrunedCounts.{PrunedOne, counted_longer, counted-prune}
use Rattle.atomicity.proofs.Times.{Formed, release_formed, times_keep}
use Rattle.atomicity.proofs.LogViews.{log_at, by_log, keep_view, log_same, log_other}
use Rattle.atomicity.proofs.MachineInvariant.{Beginning, Ghost, MachineInvariant, HeadAt, at-start, after-release, at-acquire}
use Rattle.atomicity.proofs.MachineInvariant.{entries_of, locks_of, contents_of, quiet-place}
use Rattle.atomicity.proofs.AppendsKeep.{by-lock}
use Rattle.atomicity.proofs.Ordered.{and_then}

-- a finished region has an entry after it, or ends in a RELEASE on which the thread is not closing
pub finished_cases : (log : Log) → is_finished log ≡ true →
    (oldest_region log < live_count log) ⊎
    ((0 < oldest_region log) × (is_release (live_event log (oldest_region log - 1)) ≡ true) × (is_releasing log.tail.releasing ≡ false))
unfolding is_finished
finished_cases log is_finished = by-more (ltb (oldest_region log) (live_count log)) refl is_finished
  where
    both : (a b : Bool) → (a && b) ≡ true → (a ≡ true) × (b ≡ true)
    both true true holds = (refl, refl)
    both true false holds = absurd (true≢false (sym holds))
    both false b holds = absurd (true≢false (sym holds))

    by-none : (none : Bool) → eqb (oldest_region log) 0 ≡ none →
        cond none false (is_release (live_event log (oldest_region log - 1)) && not (is_releasing log.tail.releasing)) ≡ true →
        (0 < oldest_region log) × (is_release (live_event log (oldest_region log - 1)) ≡ true) × (is_releasing log.tail.releasing ≡ false)
    by-none true is_none holds = absurd (true≢false (sym holds))
    by-none false option_is_some holds =
        let found = both (is_release (live_event log (oldest_region log - 1))) (not (is_releasing log.tail.releasing)) holds in
        let not_zero = eqb-false (oldest_region log) 0 option_is_some in
        (omega (arith, not_zero), found.0, not-true (is_releasing log.tail.releasing) found.1)

    by-more : (more : Bool) → ltb (oldest_region log) (live_count log) ≡ more →
        cond more true
        (cond (eqb (oldest_region log) 0) false
        (is_release (live_event log (oldest_region log - 1)) && not (is_releasing log.tail.releasing))) ≡ true →
        (oldest_region log < live_count log) ⊎
        ((0 < oldest_region log) × (is_release (live_event log (oldest_region log - 1)) ≡ true) × (is_releasing log.tail.releasing ≡ false))
    by-more true is_more holds = inl (ltb-true (oldest_region log) (live_count log) is_more)
    by-more false is_less holds = inr (by-none (eqb (oldest_region log) 0) refl holds)

-- a version's entry is a STORE of the cell
in_says : {entries : Entries} {start cell thread number : ℕ} {versions : List Version} →
    Chain entries start cell versions → In thread number versions →
    (old : ℕ) × Is entries thread number (Store cell old)
in_says {entries} {start} {cell} {thread} {number} (linked {version} {older} link chain) (here is_thread is_number) = (
  latest start older,
  subst
      (λ (t : ℕ). Is entries t number (Store cell (latest start older)))
      is_thread
      (subst (λ (n : ℕ). Is entries version.thread n (Store cell (latest start older))) is_number link.says),
)
in_says (linked link chain) (there is_in) = in_says chain is_in
in_says unlogged is_in = elim is_in [ ]

module _ {start : Beginning} {machine : Machine} {history : List Fed} {ghost : Ghost}
    (machine_holds : MachineInvariant start machine history ghost) (thread : ℕ) (asked : PruneAsked machine thread) where
  abbrev log : Log
  log = log_at machine.logs thread

  abbrev size : ℕ
  size = oldest_region log

  holds : UndoHolds log (ghost.event thread)
  holds = machine_holds.logs thread asked.in_thread

  region : RegionIs log (ghost.event thread) size
  region = oldest-region log (ghost.event thread) holds

  in_logs : thread < length machine.logs
  in_logs = rw machine_holds.sized.logs asked.in_thread

  finished : (size < live_count log) ⊎
      ((0 < size) × (is_release (live_event log (size - 1)) ≡ true) × (is_releasing log.tail.releasing ≡ false))
  finished = finished_cases log asked.is_finished_region

  not-empty : 1 ≤ size
  not-empty =
      ⊎_elim
      (λ more. region.region_some (λ none. omega arith))
      (λ ends. ends.0)
      finished

  within_log : log.head.0 + size ≤ log.tail.next.0
  within_log = let live = region.region_live in let bound = holds.head_next in omega arith

  within-durable : log.head.0 + size ≤ log.tail.durable.0 + 1
  within-durable = let bound = asked.is_durable_region in let positive = holds.head_positive in let some-entry = not-empty in omega arith

  -- the live entry at an index of the region
  says_at : (number : ℕ) → log.head.0 ≤ number → number < log.head.0 + size →
      live_event log (number - log.head.0) ≡ ghost.event thread number
  says_at number from to =
      let within = within_log in
      live-event log (ghost.event thread) holds (number - log.head.0) number (omega arith) (omega arith)

  -- the machine with the head moved, before the counter for 16
  abbrev moved : Machine
  moved = with_log machine thread (drop_of log size)

  moved-log : log_at moved.logs thread ≡ drop_of log size
  moved-log = log_same machine.logs thread (drop_of log size) in_logs

  moved-head : (log_at moved.logs thread).head.0 ≡ log.head.0 + size
  unfolding drop_of
  moved-head = ap (λ (l : Log). l.head.0) moved-log

  pub moved_keeps : Keeps (entries_of start machine ghost) (entries_of start moved ghost) (length history)
  unfolding drop_of
  moved_keeps =
      keep_view start.before machine.logs ghost.event ghost.time ghost.made (length history) thread (drop_of log size)
      in_logs refl (omega arith) (omega arith)

  head-other : (other : ℕ) → (other ≡ thread → ⊥) → (log_at moved.logs other).head.0 ≡ (log_at machine.logs other).head.0
  head-other other differs = ap (λ (l : Log). l.head.0) (log_other machine.logs thread other (drop_of log size) differs)

  releasing-same : (other : ℕ) → (log_at moved.logs other).tail.releasing ≡ (log_at machine.logs other).tail.releasing
  unfolding drop_of
  releasing-same =
      by_log (λ other l. l.tail.releasing ≡ (log_at machine.logs other).tail.releasing) machine.logs thread
      (drop_of log size) in_logs refl (λ other differs. refl)

  logs-moved : (other : ℕ) → other < thread_count → UndoHolds (log_at moved.logs other) (ghost.event other)
  logs-moved =
      by_log (λ other l. other < thread_count → UndoHolds l (ghost.event other)) machine.logs thread
      (drop_of log size) in_logs (λ _. prune-holds log (ghost.event thread) holds size within_log within-durable)
      (λ other differs. machine_holds.logs other)

  -- after a PRUNE the head stands where the next region begins
  head-moved : HeadAt (entries_of start moved ghost) thread
  head-moved =
      let head = moved-head in
      let next = moved_keeps.next_same thread in
      let since = machine_holds.begins thread asked.in_thread in
      let some-entry = not-empty in
      let ends_there : is_release (ghost.event thread (log.head.0 + size - 1)) ≡ true → HeadAt (entries_of start moved ghost) thread =
      λ ends. after-release (omega arith) (rw head ends) in
      ⊎_elim
      (λ more.
      let below : log.head.0 + size < log.tail.next.0 = omega arith in
      ⊎_elim
      (λ begins. at-acquire (omega arith) (rw head begins))
      ends_there
      (region.region_ends below))
      (λ last. ends_there
      (subst (λ (said : Event). is_release said ≡ true)
      (live-event log (ghost.event thread) holds (size - 1) (log.head.0 + size - 1) (omega arith)
      (let within = within_log in omega arith))
      last.1))
      finished

  heads-moved : (other : ℕ) → other < thread_count → HeadAt (entries_of start moved ghost) other
  heads-moved other in_range =
      by_cases
      (ℕ_discrete other thread)
      (λ same. rw same head-moved)
      (λ differs. stays differs (machine_holds.heads other in_range))
    where
      stays : (other ≡ thread → ⊥) → HeadAt (entries_of start machine ghost) other → HeadAt (entries_of start moved ghost) other
      stays differs (at-start is_first) = at-start (head-other other differs ∙ is_first)
      stays differs (after-release more ends) = after-release (rw (head-other other differs) more) (rw (head-other other differs) ends)
      stays differs (at-acquire less begins) =
          at-acquire (rw (head-other other differs, moved_keeps.next_same other) less) (rw (head-other other differs) begins)

  -- the cells that the region logged are durable
  cell-moved : (cell : ℕ) →
      PersistCell (entries_of start machine ghost) (entries_of start moved ghost) (contents_of start machine.cache)
      (contents_of start machine.cache) ghost.versions cell
  cell-moved cell = by-durable (is_durable machine.cache cell) refl
    where
      by-durable : (test : Bool) → is_durable machine.cache cell ≡ test →
          PersistCell (entries_of start machine ghost) (entries_of start moved ghost) (contents_of start machine.cache)
          (contents_of start machine.cache) ghost.versions cell
      by-durable true durable = made-equal (machine_holds.durable_kept.kept cell durable)
      by-durable false undurable =
          unchanged refl (λ other number is_in live gone.
          by_cases
          (ℕ_discrete other thread)
          (λ same.
          let store = in_says (machine_holds.cells.chain cell) is_in in
          let head = moved-head in
          let from : log.head.0 ≤ number = subst (λ (t : ℕ). (log_at machine.logs t).head.0 ≤ number) same live in
          let to : number < (log_at moved.logs thread).head.0 = subst (λ (t : ℕ). number < (log_at moved.logs t).head.0) same gone in
          let said = says_at number from (omega arith) in
          let tested =
          some_below-none size (λ index. logs_undurable machine.cache (live_event log index)) asked.cells_durable
          (number - log.head.0) (omega arith) in
          let is : ghost.event thread number ≡ Store cell store.0 =
          subst (λ (t : ℕ). ghost.event t number ≡ Store cell store.0) same store.1.says in
          let durable = not-false (is_durable machine.cache cell) (ap (logs_undurable machine.cache) (sym (said ∙ is)) ∙ tested) in
          true≢false (sym durable ∙ undurable))
          (λ differs. let same = head-other other differs in omega arith))

  -- an ACQUIRE in the region is its first entry
  acquire-first : {number lock count : ℕ} → log.head.0 ≤ number → number < log.head.0 + size →
      IsAcquireOf (entries_of start machine ghost) thread number lock count → number ≡ log.head.0
  acquire-first {number} from to acquire =
      by_cases
      (dec_lt log.head.0 number)
      (λ after. absurd (true≢false (sym (ap is_acquire acquire.says) ∙ region.no_acquire number after to)))
      (λ not_after. omega (arith, not_after))

  awaited-first : {lock count : ℕ} → IsAcquireOf (entries_of start machine ghost) thread log.head.0 lock count →
      count ≤ (lock_of machine lock).pruned.0
  awaited-first {lock} {count} acquire =
      let some-entry = not-empty in
      let said : live_event log 0 ≡ Acquire lock (sync_count count) =
      live-event log (ghost.event thread) holds 0 log.head.0 (omega arith) acquire.made.below ∙ acquire.says in
      ltb-false (lock_of machine lock).pruned.0 count (ap (awaits_release machine.locks) (sym said) ∙ asked.awaits_nothing)

  finished-region : (log.head.0 + size < log.tail.next.0) ⊎ (log.tail.releasing ≡ None)
  finished-region =
      ⊎_elim
      (λ more. inl (omega arith))
      (λ last. inr (releases-nothing log.tail.releasing last.2))
      finished

  -- what PRUNE does to the thread's regions
  pub prune-regions : PruneRegions (entries_of start machine ghost) (entries_of start moved ghost) (length history) thread size
  prune-regions = record {
    keeps = moved_keeps;
    not_empty = not-empty;
    head_since = machine_holds.begins thread asked.in_thread;
    head_more = moved-head;
    head_other = head-other;
    within = within_log;
    acquire_first = region.no_acquire;
    release_last = λ number from to. region.no_release number from (omega arith);
    ends = region.region_ends;
    finished =
        ⊎_elim
        (λ more. inl (omega arith))
        (λ last. let some-entry =
        not-empty in
        let within = within_log in
        let positive = holds.head_positive in
        inr (subst (λ (said : Event). is_release said ≡ true)
        (live-event log (ghost.event thread) holds (size - 1) (log.head.0 + size - 1) (omega arith) (omega arith))
        last.1))
        finished;
  }

  last_made : Made (entries_of start machine ghost) thread (log.head.0 + size - 1)
  last_made =
      let since =
      machine_holds.begins thread asked.in_thread in
      let some-entry = not-empty in
      let within = within_log in
      record { since = omega arith; below = omega arith }

  -- the machine with the head moved, and these locks
  abbrev with_locks : List LockState → Machine
  with_locks locks = record {
    cache = machine.cache;
    logs = moved.logs;
    clocks = machine.clocks;
    lock_clocks = machine.lock_clocks;
    locks = locks;
    accesses = machine.accesses;
  }

  -- locks that differ in what is pruned alone: one more of the lock of the region's last RELEASE, if it ends in one
  record PrunedLocks (locks : List LockState) : Type 0 where
    sized : length locks ≡ lock_count
    holder_same : (lock : ℕ) → (get_or locks lock no_lock).holder ≡ (lock_of machine lock).holder
    count_same : (lock : ℕ) → (get_or locks lock no_lock).count.0 ≡ (lock_of machine lock).count.0
    cases : ((lock count : ℕ) ×
        EndsInRelease (entries_of start machine ghost) thread (log.head.0 + size - 1) lock count (locks_of machine)
        (locks_of (with_locks locks))) ⊎
        ((lock : ℕ) → (get_or locks lock no_lock).pruned.0 ≡ (lock_of machine lock).pruned.0)
    pruned_one : (lock : ℕ) →
        PrunedOne (entries_of start machine ghost) thread (log.head.0 + size - 1) lock (lock_of machine lock).pruned.0
        (get_or locks lock no_lock).pruned.0

  prune-machine : (place value : ℕ) (locks : List LockState) → PrunedLocks locks →
      MachineInvariant start (with_locks locks) (and_then history (took_step PRUNE thread place value)) ghost
  prune-machine place value locks pruned =
      let same : SameLocks (locks_of machine) (locks_of (with_locks locks)) = record {
        releasing_same = releasing-same;
        holder_same = pruned.holder_same;
        count_same = pruned.count_same;
      } in
      record {
        begins = λ other in_range.
            let more = moved_keeps.grows.head_grows other in let was = machine_holds.begins other in_range in omega arith;
        sized = record {
          logs = simp length-set machine_holds.sized.logs;
          clocks = machine_holds.sized.clocks;
          lock_clocks = machine_holds.sized.lock_clocks;
          locks = pruned.sized;
          stamps = machine_holds.sized.stamps;
          logged = machine_holds.sized.logged;
          loggers = machine_holds.sized.loggers;
        };
        logs = logs-moved;
        cache_sized = machine_holds.cache_sized;
        durable_kept = machine_holds.durable_kept;
        locks = locks_keep moved_keeps same machine_holds.locks;
        prunes =
            prunes-prune
            (record {
              keeps = moved_keeps;
              same = same;
              not_empty = not-empty;
              head_more = moved-head;
              head_other = head-other;
              acquire_first = acquire-first;
              awaited = awaited-first;
              finished = finished-region;
              pruned_cases = pruned.cases;
            })
            machine_holds.locks
            machine_holds.prunes;
        heads = heads-moved;
        cells = cells_keep moved_keeps (λ cell. refl) (λ cell. refl) cell-moved machine_holds.cells;
        places =
            places-step
            (quiet-place
            (record {
              thread = λ is_accepted. asked.in_thread;
              no_release = λ is_accepted is_kind. omega arith;
              no_boundary = λ is_accepted is_kind. ⊎_elim (λ is_acquire. omega arith) (λ is_logrel. omega arith) is_kind;
              logged = λ is_accepted is_kind. absurd (omega arith);
            })
            moved_keeps
            pruned.count_same
            machine_holds.places)
            machine_holds.places;
        times = times_keep (took_step PRUNE thread place value) moved_keeps machine_holds.times;
        counted =
            counted_longer (took_step PRUNE thread place value) moved_keeps.grows
            (λ lock releases. let is_kind = releases.is_kind in absurd (omega arith))
            (counted-prune prune-regions machine_holds.places machine_holds.times pruned.pruned_one machine_holds.counted);
      }

  -- what the region's last entry says
  last_says : live_event log (size - 1) ≡ ghost.event thread (log.head.0 + size - 1)
  last_says =
      let some-entry = not-empty in
      let within = within_log in
      let since = machine_holds.begins thread asked.in_thread in
      live-event log (ghost.event thread) holds (size - 1) (log.head.0 + size - 1) (omega arith) (omega arith)

  -- the locks as they were, where the region ends in no RELEASE
  same-pruned : is_release (live_event log (size - 1)) ≡ false → PrunedLocks machine.locks
  same-pruned no_release = record {
    sized = machine_holds.sized.locks;
    holder_same = λ lock. refl;
    count_same = λ lock. refl;
    cases = inr (λ lock. refl);
    pruned_one = λ lock.
        inr ((λ count ends. true≢false (sym (ap is_release ends) ∙ (sym (ap is_release last_says) ∙ no_release))), refl);
  }

  -- one more RELEASE of this lock is pruned
  abbrev one_pruned : ℕ → LockState
  one_pruned lock = record {
    holder = (lock_of machine lock).holder;
    count = (lock_of machine lock).count;
    pruned = sync_count ((lock_of machine lock).pruned.0 + 1);
  }

  one-pruned : (lock : ℕ) (count : SyncCount) → live_event log (size - 1) ≡ Release lock count →
      PrunedLocks (set machine.locks lock (one_pruned lock))
  one-pruned lock count said =
      let says : ghost.event thread (log.head.0 + size - 1) ≡ Release lock count = sym last_says ∙ said in
      let in_range : lock < lock_count =
      release_formed (subst Formed says (machine_holds.times.formed thread (log.head.0 + size - 1) last_made)) in
      let in_locks : lock < length machine.locks = rw machine_holds.sized.locks in_range in
      record {
        sized = simp length-set machine_holds.sized.locks;
        holder_same =
            by-lock (λ other state. state.holder ≡ (lock_of machine other).holder) machine.locks lock (one_pruned lock)
            in_locks refl (λ other differs. refl);
        count_same =
            by-lock (λ other state. state.count.0 ≡ (lock_of machine other).count.0) machine.locks lock
            (one_pruned lock) in_locks refl (λ other differs. refl);
        cases = inl (
          lock,
          count.0,
          record {
            release = record { made = last_made; says = says };
            pruned_self =
                by-lock (λ other state. other ≡ lock → state.pruned.0 ≡ suc (lock_of machine lock).pruned.0)
                machine.locks lock (one_pruned lock) in_locks (λ same. omega arith)
                (λ other differs same. absurd (differs same)) lock refl;
            pruned_other =
                by-lock (λ other state. (other ≡ lock → ⊥) → state.pruned.0 ≡ (lock_of machine other).pruned.0)
                machine.locks lock (one_pruned lock) in_locks (λ differs. absurd (differs refl))
                (λ other differs _. refl);
          },
        );
        pruned_one =
            by-lock (λ found state. PrunedOne (entries_of start machine ghost) thread (log.head.0 + size - 1) found
            (lock_of machine found).pruned.0 state.pruned.0)
            machine.locks lock (one_pruned lock) in_locks (inl (count, says, omega arith))
            (λ found differs. inr ((λ larger ends. differs (cc)), refl));
      }

  by_last : (place value : ℕ) (last : Event) → live_event log (size - 1) ≡ last →
      MachineInvariant start (count_pruned moved last) (and_then history (took_step PRUNE thread place value)) ghost
  by_last place value Empty said = prune-machine place value machine.locks (same-pruned (ap is_release said))
  by_last place value (Store cell old) said = prune-machine place value machine.locks (same-pruned (ap is_release said))
  by_last place value (Acquire lock count) said = prune-machine place value machine.locks (same-pruned (ap is_release said))
  by_last place value (Release lock count) said =
      prune-machine place value (set machine.locks lock (one_pruned lock)) (one-pruned lock count said)

pub machine_prune : {start : Beginning} {machine : Machine} {history : List Fed} {ghost : Ghost} →
    MachineInvariant start machine history ghost → (thread place value : ℕ) →
    AllFail (tests_of machine PRUNE thread place value) →
    MachineInvariant start (effect machine PRUNE thread place value).machine (and_then history (took_step PRUNE thread place value)) ghost
unfolding effect prune_effect
machine_prune {machine} machine_holds thread place value fails =
    by_last
    machine_holds
    thread
    (prune_asked machine thread place value fails)
    place
    value
    (live_event (log_at machine.logs thread) (oldest_region (log_at machine.logs thread) - 1))
    refl

-- PRUNE changes the thread's log by moving its head, whatever the counter for 16
pub prune_logs : (machine : Machine) (thread place value : ℕ) →
    (effect machine PRUNE thread place value).machine.logs ≡
    set machine.logs thread (drop_of (log_at machine.logs thread) (oldest_region (log_at machine.logs thread)))
unfolding effect prune_effect
prune_logs machine thread place value =
    counted (with_log machine thread (drop_of (log_at machine.logs thread) (oldest_region (log_at machine.logs thread))))
    (live_event (log_at machine.logs thread) (oldest_region (log_at machine.logs thread) - 1))
  where
    counted : (dropped : Machine) (last : Event) → (count_pruned dropped last).logs ≡ dropped.logs
    counted dropped Empty = refl
    counted dropped (Store cell old) = refl
    counted dropped (Acquire lock count) = refl
    counted dropped (Release lock count) = refl
