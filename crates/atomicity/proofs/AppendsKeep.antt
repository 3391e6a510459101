-- The steps that make an entry keep what holds of a machine and its history: LOG of a cell without one in the current region, ACQUIRE and
-- LOGREL.
use Rattle.std.specs.Prelude.{None, Some}
use Prim.Native.Nat.{ℕ, suc, ◌+◌, ◌-◌, ◌≤◌, ◌<◌}
use native.Mathlib.Decide.{dec_lt, ℕ_discrete}
use native.Mathlib.Omega.{arith}
use mathlib.Core.Path.{◌≡◌, refl, sym, ap, ◌∙◌, subst}
use mathlib.Core.Bool.{Bool, true, cond, ◌&&◌, true≢false}
use mathlib.Core.List.{List, ◌∷◌}
use mathlib.Core.Logic.{◌⊎◌, inl, inr, ⊎_elim, by_cases, ◌≢◌}
use lib.ListN.{length, get_or, set}
use lib.Seq.{get_or-set_same, get_or-set_other}
use lib.Dec.{eqb}
use borrow.Author.Tests.{eq-eqb, ne_eqb}
use Rattle.sizes.specs.Sizes.{thread_count}
use Rattle.answer.proofs.RefusalLaws.{AllFail}
use Rattle.cache.specs.Cache.{cached_at}
use Rattle.event.specs.Events.{sync_count, kind_of, place_of, closes_of}
use Rattle.undo.specs.Entering.{enter_of}
use Rattle.thread_log.specs.Entries.{append_tests, append_of}
use Rattle.undo.specs.Regions.{is_release, logged_of}
use Rattle.append.specs.Append.{grown_tail, closed_by}
use Rattle.event.specs.declared.Event.{Event}
use Rattle.event.specs.declared.Event.TheVariants.{Empty, Store, Acquire, Release}
use Rattle.thread_log.specs.declared.Log.{Log}
use Rattle.event.specs.declared.SyncCount.{SyncCount}
use Rattle.undo.proofs.UndoInvariant.{UndoHolds, with_event, enter-holds}
use Rattle.undo.proofs.LoggedLaws.{logged-nowhere}
use Rattle.accesses.specs.Accesses.{logged_cell_of}
use Rattle.machine.specs.Effects.{first_log_effect, acquire_effect, log_release_effect, effect}
use Rattle.locks.specs.Locks.{no_lock}
use Rattle.machine.specs.Holds.{lock_of}
use Rattle.kinds.specs.declared.Kind.TheVariants.{Log as LOG, Acquire as ACQUIRE, LogRel as LOGREL}
use Rattle.accesses.specs.declared.Accesses.{Accesses}
use Rattle.clocks.specs.declared.Clock.{Clock}
use Rattle.locks.specs.declared.Lock.{Lock as LockState}
use Rattle.machine.specs.State.{Machine}
use Rattle.machine.specs.declared.Stepped.{Stepped}
use Rattle.machine.proofs.AcceptedMeans.{LogAsked, log_asked, FirstLogAsked, first_log_asked, acquire_asked, log_release_asked}
use Rattle.machine.proofs.LogCases.{log-first}
use Rattle.machine.proofs.Sizes.{Sized, effect-sized}
use Rattle.machine.proofs.StepLaws.{tests_of}
use Rattle.atomicity.specs.History.{Fed, step_at}
use Rattle.atomicity.specs.Races.{Conflict}
use Rattle.atomicity.proofs.Logged.{Entries, Made, Is, Appends, is-cases, new-made, new_is}
use Rattle.atomicity.proofs.Locks.{AppendLocks, locks-append, prunes-append}
use Rattle.atomicity.proofs.Leads as Order
use Rattle.atomicity.proofs.Leads.{Leads}
use Rattle.atomicity.proofs.Cells.{Version, Chain, linked, unlogged, NewestLeads, none-older, leads-to, NoBoundaryAfter, CellsHold}
use Rattle.atomicity.proofs.Cells.{LogsCell, cells-log, cells_boundary}
use Rattle.atomicity.proofs.Follows.{Follows}
use Rattle.atomicity.proofs.HistoryRuns.{took_step}
use Rattle.atomicity.proofs.Places.{PlacesHold, LogStands, made_by, last_of, made-new, step-before, step-new, last-was}
use Rattle.atomicity.proofs.Places.{places-step, before-leads}
use Rattle.atomicity.proofs.PrunedCounts.{counted_same, counted_longer}
use Rattle.atomicity.proofs.RaceTests.{log-decides}
use Rattle.atomicity.proofs.Times.{Formed, a_store, an_acquire, a_release, step_kind_of, times-append}
use Rattle.atomicity.proofs.LogViews.{set_at, set_at_here, set_at-other, log_at, view_of, by_log, log_same, log_other, events_then}
use Rattle.atomicity.proofs.LogViews.{times_then, append-view}
use Rattle.atomicity.proofs.MachineInvariant.{Beginning, Ghost, MachineInvariant, HeadAt, at-start, after-release, at-acquire}
use Rattle.atomicity.proofs.MachineInvariant.{entries_of, locks_of, contents_of}
use Rattle.atomicity.proofs.Ordered.{and_then}

-- an append leaves the head where a region begins
head_append : {old new : Entries} {now thread : ℕ} {event : Event} → Appends old new now thread event → (other : ℕ) →
    old.before other < old.head other → old.head other ≤ old.next other → HeadAt old other → HeadAt new other
head_append appends other since within (at-start is_first) =
    at-start (appends.head_same other ∙ (is_first ∙ ap (λ (given : ℕ → ℕ). suc (given other)) (sym appends.grows.before_same)))
head_append {old} {new} appends other since within (after-release more ends) =
    after-release
    (rw (appends.head_same other, appends.grows.before_same) more)
    (rw (
      appends.head_same other,
      appends.grows.says_same other (old.head other - 1) (record { since = omega arith; below = omega arith }),
    ) ends)
head_append {old} {new} appends other since within (at-acquire less begins) =
    let made : Made old other (old.head other) = record { since = since; below = less } in
    let still = appends.grows.still other (old.head other) made in
    at-acquire
    (rw (appends.head_same other) still.below)
    (rw (appends.head_same other, appends.grows.says_same other (old.head other) made) begins)

-- what a new entry leaves of a lock: its holder and its counts; who holds it now held it, or acquired it just now
record LockKept (thread : ℕ) (event : Event) (lock : ℕ) (was now : LockState) : Type 0 where
  holder_kept : {other : ℕ} → was.holder ≡ Some other → now.holder ≡ Some other
  count_same : now.count.0 ≡ was.count.0
  pruned_same : now.pruned.0 ≡ was.pruned.0
  holder_cases : {other : ℕ} → now.holder ≡ Some other →
      (was.holder ≡ Some other) ⊎ ((other ≡ thread) × (event ≡ Acquire lock (sync_count was.count.0)))

-- a lock that is as it was
same-lock : {thread : ℕ} {event : Event} {lock : ℕ} {state : LockState} → LockKept thread event lock state state
same-lock = record {
  holder_kept = λ is_held. is_held;
  count_same = refl;
  pruned_same = refl;
  holder_cases = λ is_held. inl is_held;
}

-- what a step that makes an entry must show: its kind, what the entry says of its cell or its lock, and what it leaves of the locks
record AppendStep (machine : Machine) (thread kind place : ℕ) (event : Event) (locks : List LockState) : Type 0 where
  not_release : kind ≢ 6
  not_releasing : (log_at machine.logs thread).tail.releasing ≡ None
  is_formed : Formed event
  is_step : kind ≡ step_kind_of event
  is_place : place ≡ place_of event
  is_log : kind ≡ 2 → (old : ℕ) × (event ≡ Store place old)
  is_acquire : kind ≡ 4 → event ≡ Acquire place (lock_of machine place).count
  acquire_has : {lock : ℕ} {count : SyncCount} → event ≡ Acquire lock count → count ≡ (lock_of machine lock).count
  release_has : {lock : ℕ} {count : SyncCount} → event ≡ Release lock count →
      (count ≡ (lock_of machine lock).count) × ((lock_of machine lock).holder ≡ Some thread)
  -- after the step the thread is releasing a lock only if the entry is a RELEASE of that lock with its count
  closes : {lock : ℕ} → closed_by None (closes_of event) ≡ Some lock → event ≡ Release lock (lock_of machine lock).count
  lock_kept : (lock : ℕ) → LockKept thread event lock (lock_of machine lock) (get_or locks lock no_lock)

module _ {start : Beginning} {machine : Machine} {history : List Fed} {ghost : Ghost}
    (machine_holds : MachineInvariant start machine history ghost) (thread : ℕ) (in_range : thread < thread_count)
    (event : Event) (room : AllFail (append_tests (log_at machine.logs thread))) where
  abbrev log : Log
  log = log_at machine.logs thread

  holds : UndoHolds log (ghost.event thread)
  holds = machine_holds.logs thread in_range

  in_logs : thread < length machine.logs
  in_logs = rw machine_holds.sized.logs in_range

  -- the logs, and what entries said and when, after the append
  abbrev pub logs_then : List Log
  logs_then = set machine.logs thread (enter_of log event)

  abbrev pub event_then : ℕ → ℕ → Event
  event_then = events_then machine.logs ghost.event thread event

  abbrev pub time_then : ℕ → ℕ → ℕ
  time_then = times_then machine.logs ghost.time thread (length history)

  abbrev pub made_then : ℕ → Bool
  made_then = set_at ghost.made (length history) true

  abbrev pub entries_then : Entries
  entries_then = view_of start.before logs_then event_then time_then made_then

  pub appends : Appends (entries_of start machine ghost) entries_then (length history) thread event
  appends =
      let since =
      machine_holds.begins thread in_range in
      let within = holds.head_next in
      append-view start.before machine.logs ghost.event ghost.time ghost.made (length history) thread event
      in_logs (omega arith)

  pub logs-append : (other : ℕ) → other < thread_count → UndoHolds (log_at logs_then other) (event_then other)
  logs-append =
      by_log
      (λ other log. other < thread_count → UndoHolds log (event_then other))
      machine.logs
      thread
      (enter_of log event)
      in_logs
      (λ _. subst (λ (said : ℕ → Event). UndoHolds (enter_of log event) said)
      (sym (set_at_here ghost.event thread (with_event (ghost.event thread) log.tail.next.0 event)))
      (enter-holds log (ghost.event thread) holds event room))
      (λ other differs within.
      subst (λ (said : ℕ → Event). UndoHolds (log_at machine.logs other) said)
      (sym (set_at-other ghost.event thread (with_event (ghost.event thread) log.tail.next.0 event) other differs))
      (machine_holds.logs other within))

  pub heads-append : (other : ℕ) → other < thread_count → HeadAt entries_then other
  heads-append other within =
      let bounds = machine_holds.logs other within in
      head_append appends other (machine_holds.begins other within) bounds.head_next (machine_holds.heads other within)

  -- the new step stands at the new entry
  pub last-new : (fed : Fed) → fed.thread ≡ thread →
      made_by entries_then (and_then history fed) thread (suc (length history)) ≡ log.tail.next.0
  last-new fed is_thread =
      made-new history fed appends.grows thread ∙
      (let counted = machine_holds.places.next_is thread in_range in
      rw (appends.made_new, eq-eqb fed.thread thread is_thread) (omega arith))

  pub releasing-append : (log_at logs_then thread).tail.releasing ≡ closed_by log.tail.releasing (closes_of event)
  unfolding append_of grown_tail
  releasing-append = ap (λ (l : Log). l.tail.releasing) (log_same machine.logs thread (enter_of log event) in_logs)

  pub releasing-other : (other : ℕ) → (other ≡ thread → ⊥) →
      (log_at logs_then other).tail.releasing ≡ (log_at machine.logs other).tail.releasing
  releasing-other other differs = ap (λ (l : Log). l.tail.releasing) (log_other machine.logs thread other (enter_of log event) differs)

  module _ {kind place : ℕ} (value : ℕ) {locks : List LockState} (step : AppendStep machine thread kind place event locks) where
    -- the step, accepted
    abbrev fed : Fed
    fed = record { kind = kind; thread = thread; place = place; value = value; accepted = true }

    -- the step's last LSN is the new entry's
    last-append : last_of entries_then (and_then history fed) (length history) ≡ log.tail.next.0
    last-append = rw (step-new history fed) (last-new fed refl)

    -- the next LSN of each thread counts the entry that the step makes of it
    next-append : (other : ℕ) → other < thread_count →
        entries_then.next other ≡
        cond (entries_then.made (length history) && eqb thread other) 1 0 + (log_at machine.logs other).tail.next.0
    next-append other within =
        by_cases
        (ℕ_discrete other thread)
        (λ same. rw (same, appends.made_new, eq-eqb thread thread refl) (let more = appends.next_more in omega arith))
        (λ differs.
        rw (appends.made_new, ne_eqb thread other (λ same. differs (sym same)))
        (let kept = appends.next_other other differs in
        omega arith))

    -- a LOG stands at its entry
    log-append : kind ≡ 2 → LogStands entries_then thread log.tail.next.0 place
    log-append is_kind =
        let store = step.is_log is_kind in
        record {
          number = log.tail.next.0;
          old = store.0;
          is_entry = rw (← store.1) (new_is appends);
          is_last = new-made appends;
          up_to = omega arith;
          no_boundary = λ later after within. absurd (omega arith);
        }

    -- the places after the step
    places-append : PlacesHold (and_then history fed) entries_then (λ lock. (get_or locks lock no_lock).count.0)
    places-append =
        places-step
        {fed = fed}
        (record {
          grows = appends.grows;
          thread = λ is_accepted. in_range;
          next_new = next-append;
          count_grows = λ lock. rw (step.lock_kept lock).count_same (omega arith);
          new_made = λ is_accepted is_kind. appends.made_new;
          new_log = λ is_accepted is_kind. rw (last-new fed refl) (log-append is_kind);
          new_release = λ is_accepted is_kind. absurd (step.not_release is_kind);
          new_acquire = λ is_accepted is_kind. rw (last-new fed refl, ← step.is_acquire is_kind) (new_is appends);
          new_taken = λ {lock = lock} release taken.
              let before = rw (step.lock_kept lock).count_same at taken in
              ⊎_elim
              (λ was. inl (was, before))
              (λ at. let equal = ap (λ (c : SyncCount). c.0) (step.release_has (sym at.2)).0 in absurd (omega arith))
              (is-cases appends release);
        })
        machine_holds.places

    -- the machine after the step, with these clocks and accesses
    abbrev machine_then : List Clock → List Clock → Accesses → Machine
    machine_then clocks lock_clocks accesses = record {
      cache = machine.cache;
      logs = logs_then;
      clocks = clocks;
      lock_clocks = lock_clocks;
      locks = locks;
      accesses = accesses;
    }

    -- a step that makes an entry keeps what holds of a machine and its history, given the sizes and the cells after it
    machine-append : {clocks lock_clocks : List Clock} {accesses : Accesses} {versions : ℕ → List Version} →
        Sized (machine_then clocks lock_clocks accesses) →
        CellsHold entries_then (contents_of start machine.cache) versions →
        MachineInvariant start (machine_then clocks lock_clocks accesses) (and_then history fed)
        (record { event = event_then; time = time_then; made = made_then; versions = versions })
    machine-append {clocks} {lock_clocks} {accesses} sized cells =
        let append_locks : AppendLocks (entries_of start machine ghost) entries_then (length history) thread event
        (locks_of machine) (locks_of (machine_then clocks lock_clocks accesses)) =
        record {
          appends = appends;
          past = machine_holds.times.past;
          head_next = holds.head_next;
          not_releasing = step.not_releasing;
          releasing_other = releasing-other;
          holder_kept = λ {other} {lock} is_held. (step.lock_kept lock).holder_kept is_held;
          count_same = λ lock. (step.lock_kept lock).count_same;
          pruned_same = λ lock. (step.lock_kept lock).pruned_same;
          release_count = λ says. ap (λ (c : SyncCount). c.0) (step.release_has says).0;
          release_held = λ says. (step.release_has says).1;
          release_waits = λ says. releasing-append ∙ ap (λ (e : Event). closed_by log.tail.releasing (closes_of e)) says;
          acquire_has = λ says. ap (λ (c : SyncCount). c.0) (step.acquire_has says);
          holder_cases = λ {other} {lock} is_held. (step.lock_kept lock).holder_cases is_held;
          releasing_new = λ is_releasing. step.closes (sym (rw step.not_releasing at releasing-append) ∙ is_releasing);
        } in
        record {
          sized = sized;
          logs = logs-append;
          begins = λ other within. let same = appends.head_same other in let was = machine_holds.begins other within in omega arith;
          cache_sized = machine_holds.cache_sized;
          durable_kept = machine_holds.durable_kept;
          locks = locks-append append_locks machine_holds.locks;
          prunes = prunes-append append_locks machine_holds.locks machine_holds.prunes;
          heads = heads-append;
          cells = cells;
          places = places-append;
          times =
              times-append
              (record {
                appends = appends;
                is_formed = step.is_formed;
                is_kind = step.is_step;
                is_place = step.is_place;
                is_accepted = refl;
                is_thread = refl;
                is_last = last-append;
              })
              machine_holds.times;
          counted =
              counted_same appends.head_same (λ lock. (step.lock_kept lock).pruned_same)
              (counted_longer fed appends.grows (λ lock releases. rw (last-new fed refl) holds.head_next) machine_holds.counted);
        }

-- a lock that is put in place is found there, and the others are as they were
lock_same : (locks : List LockState) (lock : ℕ) (state : LockState) → lock < length locks → get_or (set locks lock state) lock no_lock ≡ state
lock_same locks lock state in_range = get_or-set_same locks lock state no_lock in_range

lock_other : (locks : List LockState) (lock other : ℕ) (state : LockState) → (other ≡ lock → ⊥) →
    get_or (set locks lock state) other no_lock ≡ get_or locks other no_lock
lock_other locks lock other state differs = get_or-set_other locks lock other state no_lock differs

-- what holds of the new lock, and of every other one, holds of each
pub by-lock : (P : ℕ → LockState → Type 0) (locks : List LockState) (lock : ℕ) (state : LockState) →
    lock < length locks → P lock state → ((other : ℕ) → (other ≡ lock → ⊥) → P other (get_or locks other no_lock)) →
    (other : ℕ) → P other (get_or (set locks lock state) other no_lock)
by-lock P locks lock state in_range self others other =
    by_cases
    (ℕ_discrete other lock)
    (λ same. subst (λ (l : ℕ). P l (get_or (set locks lock state) l no_lock)) (sym same) (rw (lock_same locks lock state in_range) self))
    (λ differs. rw (lock_other locks lock other state differs) (others other differs))

module _ {start : Beginning} {machine : Machine} {history : List Fed} {ghost : Ghost}
    (machine_holds : MachineInvariant start machine history ghost) (thread place value : ℕ) where
  -- what entries said and when, after the thread made one more
  abbrev pub ghost_then : Event → (ℕ → List Version) → Ghost
  ghost_then event versions = record {
    event = events_then machine.logs ghost.event thread event;
    time = times_then machine.logs ghost.time thread (length history);
    made = set_at ghost.made (length history) true;
    versions = versions;
  }

  -- ACQUIRE's entry
  abbrev pub acquire_entry : Event
  acquire_entry = Acquire place (lock_of machine place).count

  pub machine-acquire : AllFail (tests_of machine ACQUIRE thread place value) →
      MachineInvariant start (effect machine ACQUIRE thread place value).machine
      (and_then history (took_step ACQUIRE thread place value)) (ghost_then acquire_entry ghost.versions)
  unfolding effect acquire_effect
  machine-acquire fails =
      let asked = acquire_asked machine thread place value fails in
      let held : LockState =
      record { holder = Some thread; count = (lock_of machine place).count; pruned = (lock_of machine place).pruned } in
      let taken : LockKept thread acquire_entry place (lock_of machine place) held = record {
        holder_kept = λ was_held. cc;
        count_same = refl;
        pruned_same = refl;
        holder_cases = λ now_held. inr ((cc), refl);
      } in
      let step : AppendStep machine thread 4 place acquire_entry (set machine.locks place held) = record {
        not_release = omega arith;
        not_releasing = asked.not_releasing;
        is_formed = an_acquire asked.in_lock;
        is_step = refl;
        is_place = refl;
        is_log = λ is_kind. absurd (omega arith);
        is_acquire = λ is_kind. refl;
        acquire_has = λ says. cc;
        release_has = λ says. ((cc), (cc));
        closes = λ closes. cc;
        lock_kept =
            by-lock (λ lock state. LockKept thread acquire_entry lock (lock_of machine lock) state) machine.locks place
            held (rw machine_holds.sized.locks asked.in_lock) taken (λ other differs. same-lock);
      } in
      machine-append machine_holds thread asked.in_thread acquire_entry asked.room value step
      (effect-sized machine machine_holds.sized ACQUIRE thread place value fails)
      (cells_boundary (appends machine_holds thread asked.in_thread acquire_entry asked.room) (inl refl)
      (λ cell old says. omega (arith, ap kind_of says)) machine_holds.cells)

  -- LOGREL's entry
  abbrev pub release_entry : Event
  release_entry = Release place (lock_of machine place).count

  pub machine-log-release : AllFail (tests_of machine LOGREL thread place value) →
      MachineInvariant start (effect machine LOGREL thread place value).machine
      (and_then history (took_step LOGREL thread place value)) (ghost_then release_entry ghost.versions)
  unfolding effect log_release_effect
  machine-log-release fails =
      let asked = log_release_asked machine thread place value fails in
      let step : AppendStep machine thread 5 place release_entry machine.locks = record {
        not_release = omega arith;
        not_releasing = asked.not_releasing;
        is_formed = a_release asked.in_lock;
        is_step = refl;
        is_place = refl;
        is_log = λ is_kind. absurd (omega arith);
        is_acquire = λ is_kind. cc;
        acquire_has = λ says. cc;
        release_has = λ says. ((cc), (cc));
        closes = λ closes. cc;
        lock_kept = λ lock. same-lock;
      } in
      machine-append machine_holds thread asked.in_thread release_entry asked.room value step
      (effect-sized machine machine_holds.sized LOGREL thread place value fails)
      (cells_boundary (appends machine_holds thread asked.in_thread release_entry asked.room) (inr refl)
      (λ cell old says. omega (arith, ap kind_of says)) machine_holds.cells)

  -- LOG's entry, and the cell's versions and the entries with it
  abbrev pub store_entry : Event
  store_entry = Store place (cached_at machine.cache place)

  abbrev pub logged_versions : ℕ → List Version
  logged_versions =
      set_at
      ghost.versions
      place
      (record { thread = thread; lsn = (log_at machine.logs thread).tail.next.0; after = cached_at machine.cache place } ∷
      ghost.versions place)

  abbrev pub logged_entries : Entries
  logged_entries =
      view_of start.before (set machine.logs thread (enter_of (log_at machine.logs thread) store_entry))
      (ghost_then store_entry logged_versions).event (ghost_then store_entry logged_versions).time (ghost_then store_entry logged_versions).made

  -- no entry is empty
  formed-not-empty : {event : Event} → Formed event → event ≡ Empty → ⊥
  formed-not-empty (a_store in_range) is_empty = omega (arith, ap kind_of is_empty)
  formed-not-empty (an_acquire in_range) is_empty = omega (arith, ap kind_of is_empty)
  formed-not-empty (a_release in_range) is_empty = omega (arith, ap kind_of is_empty)

  -- an entry of a cell before the head has the region's boundary at the head after it
  pruned-not-current : {number cell old : ℕ} → thread < thread_count →
      Is (entries_of start machine ghost) thread number (Store cell old) →
      NoBoundaryAfter (entries_of start machine ghost) thread number → number < (log_at machine.logs thread).head.0 → ⊥
  pruned-not-current {number} in_range is none pruned = by-head (machine_holds.heads thread in_range)
    where
      by-head : HeadAt (entries_of start machine ghost) thread → ⊥
      by-head (at-start is_first) = let since = is.made.since in omega arith
      by-head (after-release more ends) =
          let head = (log_at machine.logs thread).head.0 in
          let within = (machine_holds.logs thread in_range).head_next in
          by_cases
          (dec_lt number (head - 1))
          (λ before. true≢false (sym ends ∙ (none (head - 1) before (record { since = omega arith; below = omega arith })).1))
          (λ not_before.
          let same : number ≡ head - 1 = omega (arith, not_before) in
          let says : ghost.event thread (head - 1) ≡ Store _ _ = rw same at is.says in
          true≢false (sym ends ∙ ap is_release says))
      by-head (at-acquire less begins) =
          let since = is.made.since in
          true≢false (sym begins ∙ (none (log_at machine.logs thread).head.0 pruned (record { since = omega arith; below = less })).0)

  -- where the cell's entry is found nowhere, it has none in the thread's current region
  pub nowhere-current : {number old : ℕ} → thread < thread_count → logged_of (log_at machine.logs thread) place ≡ None
      → Is (entries_of start machine ghost) thread number (Store place old) → NoBoundaryAfter (entries_of start machine ghost) thread number
      → ⊥
  nowhere-current {number} {old} in_range is_nowhere is none =
      let holds_log = machine_holds.logs thread in_range in
      by_cases
      (dec_lt number (log_at machine.logs thread).head.0)
      (λ pruned. pruned-not-current in_range is none pruned)
      (λ live.
      let begins = machine_holds.begins thread in_range in
      let ended =
      logged-nowhere
      (log_at machine.logs thread)
      (ghost.event thread)
      holds_log
      place
      (λ other from to. formed-not-empty (machine_holds.times.formed thread other (record { since = omega arith; below = to })))
      is_nowhere
      number
      old
      (omega (arith, live))
      is.made.below
      is.says in
      let since = is.made.since in
      let from = ended.later_from in
      let found = none ended.later from (record { since = omega arith; below = ended.later_to }) in
      ⊎_elim
      (λ begins. true≢false (sym begins ∙ found.0))
      (λ ends. true≢false (sym ends ∙ found.1))
      ended.later_ends)

  -- the history, its places and the cell after a LOG of a cell without an entry in the current region; its value is 0
  module _ (follows : Follows machine history) (fails : AllFail (tests_of machine LOG thread place value))
      (is_nowhere : logged_of (log_at machine.logs thread) place ≡ None) where
    asked : LogAsked machine thread place value
    asked = log_asked machine thread place value fails

    appending : FirstLogAsked machine thread place
    appending = first_log_asked machine thread place value fails is_nowhere

    -- what LOG shows of its entry
    log-step : AppendStep machine thread 2 place store_entry machine.locks
    log-step = record {
      not_release = omega arith;
      not_releasing = asked.not_releasing;
      is_formed = a_store asked.in_cell;
      is_step = refl;
      is_place = refl;
      is_log = λ is_kind. (_, refl);
      is_acquire = λ is_kind. cc;
      acquire_has = λ says. cc;
      release_has = λ says. ((cc), (cc));
      closes = λ closes. cc;
      lock_kept = λ lock. same-lock;
    }

    pub log-appends : Appends (entries_of start machine ghost) logged_entries (length history) thread store_entry
    log-appends = appends machine_holds thread asked.in_thread store_entry appending.room

    -- the cell's newest version leads to the new one: it is the thread's own, or it would race
    newest-ordered : {versions : List Version} {first : ℕ} →
        Chain (entries_of start machine ghost) first place versions →
        NewestLeads logged_entries thread (log_at machine.logs thread).tail.next.0 versions
    newest-ordered unlogged = none-older
    newest-ordered (linked {version} link chain) =
        let fed = took_step LOG thread place 0 in
        let next = (log_at machine.logs thread).tail.next.0 in
        let at = ghost.time version.thread version.lsn in
        let past : at < length history = machine_holds.times.past version.thread version.lsn link.says.made in
        let made = machine_holds.times.entry_step link.says in
        let old : step_at (and_then history fed) at ≡ step_at history at = step-before history fed past in
        let new : step_at (and_then history fed) (length history) ≡ fed = step-new history fed in
        let was_thread : (step_at (and_then history fed) at).thread ≡ version.thread = ap (λ (s : Fed). s.thread) old ∙ made.is_thread in
        let now_thread : (step_at (and_then history fed) (length history)).thread ≡ thread = ap (λ (s : Fed). s.thread) new in
        let was_last = last-was history fed log-appends.grows past ∙ made.is_last in
        let is_last = last-append machine_holds thread asked.in_thread store_entry appending.room 0 log-step in
        let places = places-append machine_holds thread asked.in_thread store_entry appending.room 0 log-step in
        leads-to
        (by_cases
        (ℕ_discrete version.thread thread)
        (λ same.
        let below = link.says.made.below in
        let here : (log_at machine.logs version.thread).tail.next.0 ≡ next =
        ap (λ (t : ℕ). (log_at machine.logs t).tail.next.0) same in
        subst (λ (t : ℕ). Leads logged_entries version.thread version.lsn t next) same (Order.in_thread (omega arith)))
        (λ differs.
        let conflict : Conflict (and_then history fed) at (length history) = record {
          is_earlier = past;
          is_accepted = ap (λ (s : Fed). s.accepted) old ∙ made.is_accepted;
          is_later_accepted = ap (λ (s : Fed). s.accepted) new;
          is_access = inr (ap (λ (s : Fed). s.kind) old ∙ made.is_kind);
          is_later_access = inr (ap (λ (s : Fed). s.kind) new);
          other_thread = λ same. differs (sym was_thread ∙ (same ∙ now_thread));
          same_cell = ap (λ (s : Fed). s.place) old ∙ (made.is_place ∙ sym (ap (λ (s : Fed). s.place) new));
          one_is_log = inl (ap (λ (s : Fed). s.kind) old ∙ made.is_kind);
        } in
        let before =
        (log-decides machine history follows thread place asked.in_thread asked.in_cell).ordered appending.no_race at conflict in
        rw (was_last, is_last, was_thread, now_thread) at (before-leads places before)))

    -- what LOG does to the cell
    pub logs-cell : LogsCell (entries_of start machine ghost) logged_entries (length history) thread place
        (contents_of start machine.cache) ghost.versions logged_versions
    logs-cell =
        let version : Version =
        record { thread = thread; lsn = (log_at machine.logs thread).tail.next.0; after = cached_at machine.cache place } in
        record {
          appends = log-appends;
          ordered = newest-ordered (machine_holds.cells.chain place);
          not_logged = nowhere-current asked.in_thread is_nowhere;
          version_new = set_at_here ghost.versions place (version ∷ ghost.versions place);
          versions_other = λ other differs. set_at-other ghost.versions place (version ∷ ghost.versions place) other differs;
        }

    log-sized : Sized (first_log_effect machine thread place).machine
    unfolding effect
    log-sized =
        subst
        (λ (stepped : Stepped). Sized stepped.machine)
        (log-first machine thread place is_nowhere)
        (effect-sized machine machine_holds.sized LOG thread place value fails)

    pub machine-log : MachineInvariant start (first_log_effect machine thread place).machine
        (and_then history (took_step LOG thread place value)) (ghost_then store_entry logged_versions)
    unfolding first_log_effect logged_cell_of
    machine-log =
        subst
        (λ (v : ℕ). MachineInvariant start (first_log_effect machine thread place).machine
        (and_then history (took_step LOG thread place v)) (ghost_then store_entry logged_versions))
        (sym asked.no_value)
        (machine-append machine_holds thread asked.in_thread store_entry appending.room 0 log-step log-sized
        (cells-log logs-cell machine_holds.cells))
