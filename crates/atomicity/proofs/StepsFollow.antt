-- Each step keeps what a machine has to do with its history: its clocks, accesses and locks are those of the history.
use Rattle.std.specs.Prelude.{None, Some}
use Prim.Native.Nat.{ℕ, suc, ◌<◌, ◌≤◌, ◌+◌, ◌-◌}
use mathlib.Core.Path.{◌≡◌, refl, sym, ◌∙◌, ap}
use mathlib.Core.Bool.{true, false, false≢true}
use mathlib.Core.List.{List, [], ◌∷◌}
use mathlib.Core.Logic.{⊎_elim, ◌≢◌}
use native.Mathlib.Omega.{arith}
use lib.ListN.{length, set, replicate}
use borrow.Author.Tests.{ltb-true, not-false}
use Rattle.sizes.specs.Sizes.{thread_count, lock_count, entry_words}
use Rattle.answer.proofs.RefusalLaws.{AllFail}
use Rattle.cache.specs.Cache.{cell_count, cached_at}
use Rattle.tail.specs.Tail.{flushed_tail, fenced_tail, released_tail}
use Rattle.append.specs.Append.{grown_tail}
use Rattle.event.specs.Events.{sync_count}
use Rattle.undo.specs.Entering.{live_event, enter_of, end_release_of}
use Rattle.thread_log.specs.Entries.{flush_log_of, fence_log_of, evict_words_of, drop_of, append_of}
use Rattle.undo.specs.Regions.{oldest_region, logged_of}
use Rattle.event.specs.declared.Event.{Event}
use Rattle.event.specs.declared.Event.TheVariants.{Empty, Store, Acquire, Release}
use Rattle.thread_log.specs.declared.Log.{Log}
use Rattle.ring.specs.declared.Lsn.{Lsn}
use Rattle.clocks.specs.Clocks.{no_clock, start_clocks}
use Rattle.accesses.specs.Accesses.{logged_cell_of}
use Rattle.machine.specs.Effects.{load_effect, first_log_effect, store_effect, acquire_effect, log_release_effect, release_effect, flush_effect}
use Rattle.machine.specs.Effects.{flush_log_effect, fence_effect, prune_effect, count_pruned, evict_log_effect, effect}
use Rattle.machine.specs.Effects.{evict_cell_effect, evict_words_effect}
use Rattle.kinds.specs.declared.Kind.{Kind}
use Rattle.kinds.specs.declared.Kind.TheVariants.{Load as LOAD, Log as LOG, Store as STORE, Acquire as ACQUIRE, LogRel as LOGREL}
use Rattle.kinds.specs.declared.Kind.TheVariants.{Release as RELEASE, Flush as FLUSH, FlushLog as FLUSHLOG, Fence as FENCE, Prune as PRUNE}
use Rattle.kinds.specs.declared.Kind.TheVariants.{EvictLog as EVICTLOG, EvictCell as EVICTCELL, EvictWords as EVICTWORDS}
use Rattle.machine.specs.Holds.{log_of, lock_of, clock_of, with_log}
use Rattle.machine.specs.Refusals.{acquire_tests, log_release_tests, state_tests}
use Rattle.locks.specs.LockSteps.{release_tests}
use Rattle.machine.specs.State.{Machine}
use Rattle.machine.proofs.AcceptedMeans.{load_asked, first_log_asked}
use Rattle.machine.proofs.LogCases.{log_cases}
use Rattle.machine.proofs.StepLaws.{tests_of}
use Rattle.machine.proofs.Beginnings.{machine_with, AllIdle}
use Rattle.machine.proofs.Sizes.{Sized, effect-sized, begin_sized}
use Rattle.atomicity.specs.History.{Fed, step_at}
use Rattle.atomicity.specs.HappensBefore.{HappensBefore}
use Rattle.atomicity.proofs.Epochs.{releases, epoch_at}
use Rattle.atomicity.proofs.Ordered.{and_then, old-or-next, step_stays, step-next}
use Rattle.atomicity.proofs.ClockInvariant.{clocked_start, clocked-refused, clocked-plain, clocked-acquire, clocked-release}
use Rattle.atomicity.proofs.AccessInvariant.{Took, AccessOf, AccessTo, accessed_start, accessed-refused, accessed-plain}
use Rattle.atomicity.proofs.AccessInvariant.{accessed-load, accessed-log}
use Rattle.atomicity.proofs.Holding.{releasing_lock, held_by, Held, begin_held, held-log, held-lock, held-acquire, held-release}
use Rattle.atomicity.proofs.HistoryRuns.{kind_number, took_step, thread-in-range, place-in-range, state-fails}
use Rattle.atomicity.proofs.Follows.{Follows, own-at_most}
use Rattle.atomicity.proofs.RaceTests.{load-ordered, log-ordered}
use Rattle.atomicity.proofs.Repeats.{LoggedNow, all-before, recorded}

-- a kind that neither accesses a cell nor joins or raises a clock
record Plain (kind : ℕ) : Type 0 where
  not_load : kind ≢ 1
  not_log : kind ≢ 2
  not_acquire : kind ≢ 4
  not_release : kind ≢ 6

-- counting a pruned region changes neither clocks nor accesses
record Unclocked (before after : Machine) : Type 0 where
  clocks : after.clocks ≡ before.clocks
  lock_clocks : after.lock_clocks ≡ before.lock_clocks
  accesses : after.accesses ≡ before.accesses

pruned-same : (machine : Machine) (event : Event) → Unclocked machine (count_pruned machine event)
pruned-same machine Empty = record { clocks = refl; lock_clocks = refl; accesses = refl }
pruned-same machine (Store cell old) = record { clocks = refl; lock_clocks = refl; accesses = refl }
pruned-same machine (Acquire lock count) = record { clocks = refl; lock_clocks = refl; accesses = refl }
pruned-same machine (Release lock count) = record { clocks = refl; lock_clocks = refl; accesses = refl }

-- counting a pruned region changes nothing of who holds what
pruned_held : (machine : Machine) (event : Event) →
    Held machine.logs machine.locks machine.clocks machine.lock_clocks →
    Held (count_pruned machine event).logs (count_pruned machine event).locks machine.clocks machine.lock_clocks
pruned_held machine Empty held = held
pruned_held machine (Store cell old) held = held
pruned_held machine (Acquire lock count) held = held
pruned_held machine (Release lock count) held =
    held-lock machine.logs machine.locks machine.clocks machine.lock_clocks held lock _ refl

-- where a thread's current region has an entry of a cell, the thread took a LOG of it and no RELEASE since
abbrev pub LogsNow : Machine → List Fed → Type 0
LogsNow machine history =
    (thread cell : ℕ) → thread < thread_count → (number : Lsn) → logged_of (log_of machine thread) cell ≡ Some number →
    LoggedNow history thread cell

module _ (machine : Machine) (history : List Fed) (follows : Follows machine history) where
  -- the threads of accepted steps stay in range
  range-next : (next : Fed) → next.thread < thread_count → (place : ℕ) →
      (step_at (and_then history next) place).accepted ≡ true → (step_at (and_then history next) place).thread < thread_count
  range-next next is_thread =
      old-or-next
      history
      next
      (λ place. (step_at (and_then history next) place).thread < thread_count)
      (λ place inside was_accepted. rw (step_stays history (next ∷ []) place inside) (follows.in_range place was_accepted))
      (λ is_accepted. rw (step-next history next) is_thread)

  -- a plain step that leaves clocks and accesses as they are keeps what the machine has to do with its history
  follows-plain : (next : Fed) (after : Machine) → next.accepted ≡ true → next.thread < thread_count →
      Plain next.kind → Sized after → after.clocks ≡ machine.clocks →
      after.lock_clocks ≡ machine.lock_clocks → after.accesses ≡ machine.accesses →
      Held after.logs after.locks machine.clocks machine.lock_clocks →
      Follows after (and_then history next)
  follows-plain next after is_accepted is_thread plain sized same_clocks same_lock_clocks same_accesses held = record {
    sized = sized;
    in_range = range-next next is_thread;
    clocked =
        rw (same_clocks, same_lock_clocks)
        (clocked-plain machine.clocks machine.lock_clocks history next follows.clocked is_accepted is_thread
        plain.not_acquire plain.not_release);
    accessed =
        rw same_accesses
        (accessed-plain history next machine.accesses follows.accessed
        (λ is_access. ⊎_elim plain.not_load plain.not_log is_access));
    held = rw (same_clocks, same_lock_clocks) held;
  }

  module _ (thread : ℕ) (is_thread : thread < thread_count) where
    -- a log with the same lock to release changes nothing of who holds what
    held_with : (log : Log) → log.tail.releasing ≡ (log_of machine thread).tail.releasing →
        Held (set machine.logs thread log) machine.locks machine.clocks machine.lock_clocks
    held_with log same =
        held-log
        machine.logs
        machine.locks
        machine.clocks
        machine.lock_clocks
        follows.held
        thread
        log
        (omega (arith, follows.sized.logs))
        (λ lock is_releasing. follows.held.releases_held thread lock (sym same ∙ is_releasing))

    own-accesses : (cell place : ℕ) → Took history (AccessOf cell thread) place → epoch_at history place ≤ suc (releases history thread)
    own-accesses cell place took = own-at_most machine history follows thread is_thread place took.is_accepted took.is_sort.2

  module _ (thread place value : ℕ) where
    abbrev Kept : Kind → Type 0
    Kept kind =
        AllFail (tests_of machine kind thread place value) →
        Follows (effect machine kind thread place value).machine (and_then history (took_step kind thread place value))

    -- kinds but LOAD, LOG, ACQUIRE and RELEASE keep what the machine has to do with its history
    plain-kept : (kind : Kind) → Plain (kind_number kind) →
        (effect machine kind thread place value).machine.clocks ≡ machine.clocks →
        (effect machine kind thread place value).machine.lock_clocks ≡ machine.lock_clocks →
        (effect machine kind thread place value).machine.accesses ≡ machine.accesses →
        (thread < thread_count → AllFail (state_tests machine kind thread place) →
        Held (effect machine kind thread place value).machine.logs
        (effect machine kind thread place value).machine.locks machine.clocks machine.lock_clocks) →
        Kept kind
    plain-kept kind plain same_clocks same_lock_clocks same_accesses held fails =
        let is_thread = thread-in-range machine kind thread place value fails in
        follows-plain
        (took_step kind thread place value)
        (effect machine kind thread place value).machine
        refl
        is_thread
        plain
        (effect-sized machine follows.sized kind thread place value fails)
        same_clocks
        same_lock_clocks
        same_accesses
        (held is_thread (state-fails machine kind thread place value fails))

    store_kept : Kept STORE
    unfolding effect store_effect
    store_kept = plain-kept STORE (omega arith) refl refl refl (λ is_thread fails. follows.held)

    flush-kept : Kept FLUSH
    unfolding effect flush_effect
    flush-kept = plain-kept FLUSH (omega arith) refl refl refl (λ is_thread fails. follows.held)

    evict_cell-kept : Kept EVICTCELL
    unfolding effect evict_cell_effect
    evict_cell-kept = plain-kept EVICTCELL (omega arith) refl refl refl (λ is_thread fails. follows.held)

    flush_log-kept : Kept FLUSHLOG
    unfolding effect flush_log_effect flush_log_of flushed_tail
    flush_log-kept =
        plain-kept FLUSHLOG (omega arith) refl refl refl
        (λ is_thread fails. held_with thread is_thread (flush_log_of (log_of machine thread)) refl)

    fence-kept : Kept FENCE
    unfolding effect fence_effect fence_log_of fenced_tail
    fence-kept =
        plain-kept FENCE (omega arith) refl refl refl (λ is_thread fails. held_with thread is_thread (fence_log_of (log_of machine thread)) refl)

    evict_log-kept : Kept EVICTLOG
    unfolding effect evict_log_effect evict_words_of
    evict_log-kept =
        plain-kept EVICTLOG (omega arith) refl refl refl
        (λ is_thread fails. held_with thread is_thread (evict_words_of (log_of machine thread) place entry_words) refl)

    evict_words-kept : Kept EVICTWORDS
    unfolding effect evict_words_effect evict_words_of
    evict_words-kept =
        plain-kept EVICTWORDS (omega arith) refl refl refl
        (λ is_thread fails. held_with thread is_thread (evict_words_of (log_of machine thread) place value) refl)

    log_release-kept : Kept LOGREL
    unfolding effect log_release_effect state_tests log_release_tests append_of grown_tail
    log_release-kept =
        plain-kept LOGREL (omega arith) refl refl refl (λ is_thread fails.
        held-log machine.logs machine.locks machine.clocks machine.lock_clocks follows.held thread
        (enter_of (log_of machine thread) (Release place (lock_of machine place).count))
        (omega (arith, follows.sized.logs))
        (λ lock is_releasing.
        let same_lock : place ≡ lock = cc in
        rw (← same_lock) (held_by (lock_of machine place).holder thread (not-false _ fails.1.0))))

    prune-kept : Kept PRUNE
    unfolding effect prune_effect drop_of
    prune-kept =
        let pruned = drop_of (log_of machine thread) (oldest_region (log_of machine thread)) in
        let event = live_event (log_of machine thread) (oldest_region (log_of machine thread) - 1) in
        let uncounted = with_log machine thread pruned in
        let same = pruned-same uncounted event in
        plain-kept
        PRUNE
        (omega arith)
        same.clocks
        same.lock_clocks
        same.accesses
        (λ is_thread fails. pruned_held uncounted event (held_with thread is_thread pruned refl))

    load_kept : Kept LOAD
    unfolding effect load_effect
    load_kept fails =
        let no_race = (load_asked machine thread place value fails).no_race in
        let is_thread = thread-in-range machine LOAD thread place value fails in
        let is_cell = ltb-true place cell_count (not-false _ (place-in-range machine LOAD thread place value fails)) in
        let next = took_step LOAD thread place value in
        record {
          sized = effect-sized machine follows.sized LOAD thread place value fails;
          in_range = range-next next is_thread;
          clocked =
              clocked-plain machine.clocks machine.lock_clocks history next follows.clocked refl is_thread
              (omega arith) (omega arith);
          accessed =
              rw (follows.clocked.own thread is_thread)
              (accessed-load history next machine.accesses follows.accessed refl is_thread is_cell
              follows.sized.stamps (own-accesses thread is_thread place) refl
              (load-ordered machine history follows next refl is_thread (omega arith) place is_cell no_race));
          held = follows.held;
        }

    -- a LOG that leaves these accesses and this log
    log-follows : (after : Machine) → AllFail (tests_of machine LOG thread place value) → Sized after →
        after.clocks ≡ machine.clocks → after.lock_clocks ≡ machine.lock_clocks →
        after.accesses ≡ logged_cell_of machine.accesses thread place (suc (releases history thread)) →
        ((earlier : ℕ) → Took history (AccessTo place) earlier →
        HappensBefore (and_then history (took_step LOG thread place value)) earlier (length history)) →
        (thread < thread_count → Held after.logs after.locks machine.clocks machine.lock_clocks) →
        Follows after (and_then history (took_step LOG thread place value))
    log-follows after fails sized same_clocks same_lock_clocks recorded in_order held =
        let is_thread = thread-in-range machine LOG thread place value fails in
        let is_cell = ltb-true place cell_count (not-false _ (place-in-range machine LOG thread place value fails)) in
        let next = took_step LOG thread place value in
        record {
          sized = sized;
          in_range = range-next next is_thread;
          clocked =
              rw (same_clocks, same_lock_clocks)
              (clocked-plain machine.clocks machine.lock_clocks history next follows.clocked refl is_thread
              (omega arith) (omega arith));
          accessed =
              rw recorded
              (accessed-log history next machine.accesses follows.accessed refl is_thread is_cell
              follows.sized.stamps (own-accesses thread is_thread place) refl follows.sized.logged
              follows.sized.loggers in_order);
          held = rw (same_clocks, same_lock_clocks) (held is_thread);
        }

    first-log-kept : AllFail (tests_of machine LOG thread place value) → logged_of (log_of machine thread) place ≡ None →
        Sized (first_log_effect machine thread place).machine →
        Follows (first_log_effect machine thread place).machine (and_then history (took_step LOG thread place value))
    unfolding first_log_effect append_of grown_tail
    first-log-kept fails is_nowhere sized =
        let is_cell = ltb-true place cell_count (not-false _ (place-in-range machine LOG thread place value fails)) in
        let next = took_step LOG thread place value in
        let is_thread = thread-in-range machine LOG thread place value fails in
        let no_race = (first_log_asked machine thread place value fails is_nowhere).no_race in
        log-follows (first_log_effect machine thread place).machine fails sized refl refl
        (ap (logged_cell_of machine.accesses thread place) (follows.clocked.own thread is_thread))
        (λ earlier took.
        log-ordered machine history follows next refl is_thread (omega arith) place is_cell no_race earlier
        took.is_accepted took.is_sort.0 took.is_sort.1)
        (λ is_thread. held_with thread is_thread (enter_of (log_of machine thread) (Store place (cached_at machine.cache place))) refl)

    log-kept : LogsNow machine history → Kept LOG
    unfolding effect
    log-kept logs_now fails =
        let is_thread = thread-in-range machine LOG thread place value fails in
        let is_cell = ltb-true place cell_count (not-false _ (place-in-range machine LOG thread place value fails)) in
        let next = took_step LOG thread place value in
        log_cases
        (λ stepped. Sized stepped.machine → Follows stepped.machine (and_then history next))
        machine
        thread
        place
        (first-log-kept fails)
        (λ number is_at sized.
        let now = logs_now thread place is_thread number is_at in
        log-follows machine fails sized refl refl (sym (recorded machine history follows thread place is_thread is_cell now))
        (all-before machine history follows thread place is_thread is_cell now next refl refl) (λ is_thread. follows.held))
        (effect-sized machine follows.sized LOG thread place value fails)

    acquire-kept : Kept ACQUIRE
    unfolding effect acquire_effect state_tests acquire_tests append_of grown_tail
    acquire-kept fails =
        let is_thread = thread-in-range machine ACQUIRE thread place value fails in
        let is_lock = ltb-true place lock_count (not-false _ (place-in-range machine ACQUIRE thread place value fails)) in
        let next = took_step ACQUIRE thread place value in
        let is_free = (state-fails machine ACQUIRE thread place value fails).1.0 in
        record {
          sized = effect-sized machine follows.sized ACQUIRE thread place value fails;
          in_range = range-next next is_thread;
          clocked =
              clocked-acquire machine.clocks machine.lock_clocks history next follows.clocked refl is_thread
              follows.sized.clocks refl is_lock;
          accessed =
              accessed-plain history next machine.accesses follows.accessed (λ is_access. ⊎_elim (omega arith) (omega arith) is_access);
          held =
              held-acquire
              (set machine.logs thread (enter_of (log_of machine thread) (Acquire place (lock_of machine place).count)))
              machine.locks
              machine.clocks
              machine.lock_clocks
              (held_with thread is_thread (enter_of (log_of machine thread) (Acquire place (lock_of machine place).count)) refl)
              thread
              place
              (record { holder = Some thread; count = (lock_of machine place).count; pruned = (lock_of machine place).pruned })
              (omega (arith, follows.sized.clocks))
              (omega (arith, follows.sized.locks))
              refl
              is_free;
        }

    release-kept : Kept RELEASE
    unfolding effect release_effect state_tests release_tests end_release_of released_tail
    release-kept fails =
        let is_thread = thread-in-range machine RELEASE thread place value fails in
        let is_lock = ltb-true place lock_count (not-false _ (place-in-range machine RELEASE thread place value fails)) in
        let next = took_step RELEASE thread place value in
        let is_releasing =
        releasing_lock (log_of machine thread).tail.releasing place
        (not-false _ (state-fails machine RELEASE thread place value fails).0) in
        let is_holder = follows.held.releases_held thread place is_releasing in
        record {
          sized = effect-sized machine follows.sized RELEASE thread place value fails;
          in_range = range-next next is_thread;
          clocked =
              clocked-release machine.clocks machine.lock_clocks history next follows.clocked refl is_thread
              follows.sized.clocks follows.sized.lock_clocks refl is_lock
              (follows.held.knows_lock place thread is_holder);
          accessed =
              accessed-plain history next machine.accesses follows.accessed (λ is_access. ⊎_elim (omega arith) (omega arith) is_access);
          held =
              held-release
              machine.logs
              machine.locks
              machine.clocks
              machine.lock_clocks
              follows.held
              thread
              place
              (end_release_of (log_of machine thread))
              (record { holder = None; count = sync_count ((lock_of machine place).count.0 + 1); pruned = (lock_of machine place).pruned })
              (clock_of machine thread)
              (omega (arith, follows.sized.clocks))
              (omega (arith, follows.sized.logs))
              (omega (arith, follows.sized.locks))
              is_thread
              refl
              refl
              is_holder;
        }

  -- each effect whose tests all failed keeps what the machine has to do with its history
  pub effect-follows : LogsNow machine history → (kind : Kind) (thread place value : ℕ) →
      AllFail (tests_of machine kind thread place value) →
      Follows (effect machine kind thread place value).machine (and_then history (took_step kind thread place value))
  effect-follows logs_now LOAD thread place value fails = load_kept thread place value fails
  effect-follows logs_now LOG thread place value fails = log-kept thread place value logs_now fails
  effect-follows logs_now STORE thread place value fails = store_kept thread place value fails
  effect-follows logs_now ACQUIRE thread place value fails = acquire-kept thread place value fails
  effect-follows logs_now LOGREL thread place value fails = log_release-kept thread place value fails
  effect-follows logs_now RELEASE thread place value fails = release-kept thread place value fails
  effect-follows logs_now FLUSH thread place value fails = flush-kept thread place value fails
  effect-follows logs_now FLUSHLOG thread place value fails = flush_log-kept thread place value fails
  effect-follows logs_now FENCE thread place value fails = fence-kept thread place value fails
  effect-follows logs_now PRUNE thread place value fails = prune-kept thread place value fails
  effect-follows logs_now EVICTLOG thread place value fails = evict_log-kept thread place value fails
  effect-follows logs_now EVICTCELL thread place value fails = evict_cell-kept thread place value fails
  effect-follows logs_now EVICTWORDS thread place value fails = evict_words-kept thread place value fails

  -- a refused step keeps what the machine has to do with its history
  pub refused-follows : (next : Fed) → next.accepted ≡ false → Follows machine (and_then history next)
  refused-follows next is_refused = record {
    sized = follows.sized;
    in_range =
        old-or-next
        history
        next
        (λ place. (step_at (and_then history next) place).thread < thread_count)
        (λ place inside was_accepted. rw (step_stays history (next ∷ []) place inside) (follows.in_range place was_accepted))
        (λ is_accepted. absurd (false≢true (sym is_refused ∙ is_accepted)));
    clocked = clocked-refused machine.clocks machine.lock_clocks history next follows.clocked is_refused;
    accessed = accessed-refused history next machine.accesses follows.accessed is_refused;
    held = follows.held;
  }

pub begin_follows : (cells : List ℕ) (logs : List Log) → AllIdle logs → Follows (machine_with cells logs) []
begin_follows cells logs all = record {
  sized = begin_sized cells logs all;
  in_range = λ place is_accepted. absurd (false≢true is_accepted);
  clocked = clocked_start;
  accessed = accessed_start;
  held = begin_held logs all start_clocks (replicate lock_count no_clock);
}
