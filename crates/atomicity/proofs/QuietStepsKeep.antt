-- The steps that make no entry and move no head keep what holds of a machine and its history: refused steps, LOAD, STORE, FLUSH, FLUSHLOG,
-- FENCE, the three evictions, and LOG of a cell that has an entry already.
use Rattle.std.specs.Prelude.{Some}
use Prim.Native.Nat.{ℕ, suc, ◌≤◌, ◌<◌}
use native.Mathlib.Decide.{ℕ_discrete}
use native.Mathlib.Omega.{arith}
use mathlib.Core.Path.{◌≡◌, refl, sym, ap, ◌∙◌, subst}
use mathlib.Core.Bool.{Bool, true, false, cond, true≢false}
use mathlib.Core.List.{List}
use mathlib.Core.Logic.{◌⊎◌, inl, inr, ⊎_elim, by_cases, ◌≢◌}
use lib.ListN.{length, set}
use lib.Seq.{get_or-set_same, get_or-set_other}
use lib.Dec.{eqb}
use Rattle.sizes.specs.Sizes.{thread_count, entry_words}
use Rattle.answer.proofs.RefusalLaws.{AllFail}
use Rattle.cache.specs.Cache.{cached_at, persisted_at, line_of, is_pending, store_of, flush_of, fence_of, evict_cell_of}
use Rattle.cache.specs.declared.Cache.{Cache}
use Rattle.cache.proofs.CacheLaws as CacheLaws
use Rattle.thread_log.specs.Entries.{flush_log_of, fence_log_of, evict_words_of}
use Rattle.ring.specs.Ring.{lsn}
use Rattle.ring.specs.declared.Lsn.{Lsn}
use Rattle.tail.specs.Tail.{flushed_tail, fenced_tail}
use Rattle.event.specs.Events.{kind_of}
use Rattle.undo.specs.Regions as Regions
use Rattle.undo.specs.Regions.{logged_of}
use Rattle.event.specs.declared.Event.TheVariants.{Store, Release}
use Rattle.thread_log.specs.declared.Log.{Log}
use Rattle.undo.proofs.UndoInvariant.{UndoHolds, flush-holds, fence-holds, tear-holds}
use Rattle.undo.proofs.LoggedLaws.{logged-at}
use Rattle.accesses.specs.Accesses.{loaded_of}
use Rattle.machine.specs.Effects.{load_effect, store_effect, flush_effect, flush_log_effect, fence_effect, evict_log_effect, effect}
use Rattle.machine.specs.Effects.{evict_cell_effect, evict_words_effect}
use Rattle.machine.specs.Holds.{with_log, with_cache, with_accesses}
use Rattle.accesses.specs.declared.Accesses.{Accesses}
use Rattle.kinds.specs.declared.Kind.TheVariants.{Load as LOAD, Log as LOG, Store as STORE, Flush as FLUSH, FlushLog as FLUSHLOG}
use Rattle.kinds.specs.declared.Kind.TheVariants.{Fence as FENCE, EvictLog as EVICTLOG, EvictCell as EVICTCELL, EvictWords as EVICTWORDS}
use Rattle.machine.specs.State.{Machine}
use Rattle.machine.proofs.AcceptedMeans.{load_asked, log_asked, store_asked, flush-asked, flush_log_asked, fence_asked}
use Rattle.machine.proofs.AcceptedMeans.{SlotAsked, evict_log_asked, evict_cell-asked, evict_words-asked}
use Rattle.machine.proofs.Sizes.{Sized, effect-sized}
use Rattle.machine.proofs.StepLaws.{tests_of}
use Rattle.atomicity.specs.History.{Fed}
use Rattle.atomicity.proofs.Logged.{Entries, Made, Is, Keeps}
use Rattle.atomicity.proofs.Locks.{SameLocks}
use Rattle.atomicity.proofs.Cells.{CellsHold, NoBoundaryAfter, made-equal, unchanged, cells_keep, restored, StoresCell, cells_store}
use Rattle.atomicity.proofs.HistoryRuns.{took_step}
use Rattle.atomicity.proofs.LogViews.{set_at, set_at_here, set_at-other, log_at, by_log, keep_view, same_view}
use Rattle.atomicity.proofs.MachineInvariant.{Beginning, Ghost, MachineInvariant, Quiet, entries_of, locks_of, contents_of}
use Rattle.atomicity.proofs.MachineInvariant.{machine_quiet}
use Rattle.atomicity.proofs.Ordered.{and_then}
use Rattle.atomicity.proofs.Places.{made_by, made_grows}
use Rattle.atomicity.proofs.Repeats.{LoggedNow}

-- a refused step is quiet
refused-quiet : {history : List Fed} {entries : Entries} (fed : Fed) → fed.accepted ≡ false → Quiet history entries fed
refused-quiet fed is_refused = record {
  thread = λ is_accepted. absurd (true≢false (sym is_accepted ∙ is_refused));
  no_release = λ is_accepted is_kind. true≢false (sym is_accepted ∙ is_refused);
  no_boundary = λ is_accepted is_kind. true≢false (sym is_accepted ∙ is_refused);
  logged = λ is_accepted is_kind. absurd (true≢false (sym is_accepted ∙ is_refused));
}

-- a kind that makes no entry and is no RELEASE
record Aside (kind : ℕ) : Type 0 where
  no_log : kind ≢ 2
  no_acquire : kind ≢ 4
  no_logrel : kind ≢ 5
  no_release : kind ≢ 6

-- an accepted step of such a kind
quiet_step : {history : List Fed} {entries : Entries} (kind thread place value : ℕ) → Aside kind → thread < thread_count →
    Quiet history entries (record { kind = kind; thread = thread; place = place; value = value; accepted = true })
quiet_step kind thread place value aside in_thread = record {
  thread = λ is_accepted. in_thread;
  no_release = λ is_accepted is_kind. aside.no_release is_kind;
  no_boundary = λ is_accepted is_kind. ⊎_elim aside.no_acquire aside.no_logrel is_kind;
  logged = λ is_accepted is_kind. absurd (aside.no_log is_kind);
}

-- entries are only kept, and so are the heads
pub record EntriesStay (start : Beginning) (machine after : Machine) (ghost : Ghost) (now : ℕ) : Type 0 where
  pub keeps : Keeps (entries_of start machine ghost) (entries_of start after ghost) now
  pub head_same : (thread : ℕ) → (log_at after.logs thread).head.0 ≡ (log_at machine.logs thread).head.0

-- a change of a log that makes no entry and moves no head
pub log_stays : (start : Beginning) (machine after : Machine) (ghost : Ghost) (now thread : ℕ) (log : Log) →
    after.logs ≡ set machine.logs thread log → thread < length machine.logs →
    log.tail.next.0 ≡ (log_at machine.logs thread).tail.next.0 →
    log.head.0 ≡ (log_at machine.logs thread).head.0 →
    (log_at machine.logs thread).tail.durable.0 ≤ log.tail.durable.0 → EntriesStay start machine after ghost now
log_stays start machine after ghost now thread log is_set in_logs next_same head_is durable_grows = record {
  keeps =
      rw is_set (keep_view start.before machine.logs ghost.event ghost.time ghost.made now thread log in_logs next_same
      (omega (arith, head_is)) durable_grows);
  head_same =
      rw is_set (by_log (λ other log. log.head.0 ≡ (log_at machine.logs other).head.0) machine.logs thread log
      in_logs head_is (λ other differs. refl));
}

-- the logs are as they were
pub logs_stay : (start : Beginning) (machine after : Machine) (ghost : Ghost) (now : ℕ) → after.logs ≡ machine.logs →
    EntriesStay start machine after ghost now
logs_stay start machine after ghost now same = record {
  keeps = rw same (same_view (entries_of start machine ghost) now);
  head_same = λ thread. rw same;
}

module _ {start : Beginning} {machine : Machine} {history : List Fed} {ghost : Ghost}
    (machine_holds : MachineInvariant start machine history ghost) where
  same-locks : SameLocks (locks_of machine) (locks_of machine)
  same-locks = record { releasing_same = λ thread. refl; holder_same = λ lock. refl; count_same = λ lock. refl }

  -- a step that leaves the logs and the locks alone: what is left to show is of the cache and the cells
  machine-aside : (cache : Cache) (accesses : Accesses) (fed : Fed) (next : Ghost) → next.event ≡ ghost.event →
      next.time ≡ ghost.time → next.made ≡ ghost.made → Quiet history (entries_of start machine ghost) fed →
      Sized (with_accesses (with_cache machine cache) accesses) →
      CacheLaws.Sized cache → CacheLaws.DurableKept cache →
      CellsHold (entries_of start machine ghost) (contents_of start cache) next.versions →
      MachineInvariant start (with_accesses (with_cache machine cache) accesses) (and_then history fed) next
  machine-aside cache accesses fed next same_event same_time same_made quiet sized cache_sized durable_kept cells =
      machine_quiet
      (record {
        quiet = quiet;
        same_event = same_event;
        same_time = same_time;
        same_made = same_made;
        sized = sized;
        logs = machine_holds.logs;
        cache_sized = cache_sized;
        durable_kept = durable_kept;
        keeps = same_view (entries_of start machine ghost) (length history);
        head_same = λ thread. refl;
        same_locks = same-locks;
        pruned_same = λ lock. refl;
        cells = cells;
      })
      machine_holds

  pub machine-refused : (fed : Fed) → fed.accepted ≡ false → MachineInvariant start machine (and_then history fed) ghost
  machine-refused fed is_refused =
      machine-aside machine.cache machine.accesses fed ghost refl refl refl (refused-quiet fed is_refused)
      machine_holds.sized machine_holds.cache_sized machine_holds.durable_kept machine_holds.cells

  module _ (thread place value : ℕ) where
    pub machine-load : AllFail (tests_of machine LOAD thread place value) →
        MachineInvariant start (effect machine LOAD thread place value).machine (and_then history (took_step LOAD thread place value)) ghost
    unfolding effect load_effect loaded_of
    machine-load fails =
        machine-aside
        machine.cache
        _
        (took_step LOAD thread place value)
        ghost
        refl
        refl
        refl
        (quiet_step 1 thread place value (omega arith)
        (load_asked machine thread place value fails).in_thread)
        (effect-sized machine machine_holds.sized LOAD thread place value fails)
        machine_holds.cache_sized
        machine_holds.durable_kept
        machine_holds.cells

    -- the cells after a change of the cache that stores nothing
    cache-cells : (cache : Cache) → ((cell : ℕ) → cached_at cache cell ≡ cached_at machine.cache cell) →
        ((cell : ℕ) →
        (persisted_at cache cell ≡ cached_at machine.cache cell) ⊎ (persisted_at cache cell ≡ persisted_at machine.cache cell)) →
        (after : Machine) → Keeps (entries_of start machine ghost) (entries_of start after ghost) (length history) →
        ((other : ℕ) → (log_at after.logs other).head.0 ≡ (log_at machine.logs other).head.0) →
        CellsHold (entries_of start after ghost) (contents_of start cache) ghost.versions
    cache-cells cache cached persisted after keeps heads =
        cells_keep
        keeps
        (λ cell. refl)
        cached
        (λ cell.
        ⊎_elim
        (λ equal. made-equal equal)
        (λ same. unchanged same (λ other number is_in live gone. let head = heads other in omega arith))
        (persisted cell))
        machine_holds.cells

    pub machine-flush : AllFail (tests_of machine FLUSH thread place value) →
        MachineInvariant start (effect machine FLUSH thread place value).machine
        (and_then history (took_step FLUSH thread place value)) ghost
    unfolding effect flush_effect
    machine-flush fails =
        machine-aside
        (flush_of machine.cache thread place)
        machine.accesses
        (took_step FLUSH thread place value)
        ghost
        refl
        refl
        refl
        (quiet_step 7 thread place value (omega arith)
        (flush-asked machine thread place value fails).in_thread)
        (effect-sized machine machine_holds.sized FLUSH thread place value fails)
        (CacheLaws.flush_of-sized machine.cache machine_holds.cache_sized thread place)
        (CacheLaws.flush_of-kept machine.cache machine_holds.cache_sized thread place machine_holds.durable_kept)
        (cache-cells (flush_of machine.cache thread place)
        (CacheLaws.flush_of-cached machine.cache machine_holds.cache_sized thread place)
        (λ cell. inr (CacheLaws.flush_of-persisted machine.cache machine_holds.cache_sized thread place cell))
        machine (same_view (entries_of start machine ghost) (length history)) (λ other. refl))

    -- a test decides whether a cell's persisted content becomes its cached one
    kept-or-same : (test : Bool) (cached persisted : ℕ) {found : ℕ} → found ≡ cond test cached persisted →
        (found ≡ cached) ⊎ (found ≡ persisted)
    kept-or-same true cached persisted is = inl is
    kept-or-same false cached persisted is = inr is

    -- cells are evicted: the cached contents of some are persisted, and nothing else changes
    cells_evicted : (kind : ℕ) → Aside kind → thread < thread_count → (cache : Cache) → Sized (with_cache machine cache) →
        CacheLaws.Sized cache → CacheLaws.DurableKept cache →
        ((cell : ℕ) → cached_at cache cell ≡ cached_at machine.cache cell) → (is_evicted : ℕ → Bool) →
        ((cell : ℕ) → persisted_at cache cell ≡
        cond (is_evicted cell) (cached_at machine.cache cell) (persisted_at machine.cache cell)) →
        MachineInvariant start (with_cache machine cache)
        (and_then history (record { kind = kind; thread = thread; place = place; value = value; accepted = true })) ghost
    cells_evicted kind aside in_thread cache sized cache_sized durable_kept cached is_evicted persisted =
        machine-aside
        cache
        machine.accesses
        _
        ghost
        refl
        refl
        refl
        (quiet_step kind thread place value aside in_thread)
        sized
        cache_sized
        durable_kept
        (cache-cells cache cached
        (λ cell. kept-or-same (is_evicted cell) (cached_at machine.cache cell) (persisted_at machine.cache cell) (persisted cell))
        machine (same_view (entries_of start machine ghost) (length history)) (λ other. refl))

    pub machine-evict-cell : AllFail (tests_of machine EVICTCELL thread place value) →
        MachineInvariant start (effect machine EVICTCELL thread place value).machine
        (and_then history (took_step EVICTCELL thread place value)) ghost
    unfolding effect evict_cell_effect
    machine-evict-cell fails =
        cells_evicted
        13
        (omega arith)
        (evict_cell-asked machine thread place value fails).0
        (evict_cell_of machine.cache place)
        (effect-sized machine machine_holds.sized EVICTCELL thread place value fails)
        (CacheLaws.evict_cell_of-sized machine.cache machine_holds.cache_sized place)
        (CacheLaws.evict_cell_of-kept machine.cache machine_holds.cache_sized place machine_holds.durable_kept)
        (CacheLaws.evict_cell_of-cached machine.cache machine_holds.cache_sized place)
        (λ cell. eqb cell place)
        (CacheLaws.evict_cell_of-persisted machine.cache machine_holds.cache_sized place)

    -- a change of the thread's log that makes no entry, moves no head and leaves the lock being released
    module _ (log : Log) (in_range : thread < thread_count) (holds : UndoHolds log (ghost.event thread))
        (next_same : log.tail.next.0 ≡ (log_at machine.logs thread).tail.next.0)
        (head_is : log.head.0 ≡ (log_at machine.logs thread).head.0)
        (durable_grows : (log_at machine.logs thread).tail.durable.0 ≤ log.tail.durable.0)
        (releasing_is : log.tail.releasing ≡ (log_at machine.logs thread).tail.releasing) where
      in_logs : thread < length machine.logs
      in_logs = rw machine_holds.sized.logs in_range

      logs-then : (other : ℕ) → other < thread_count → UndoHolds (log_at (set machine.logs thread log) other) (ghost.event other)
      logs-then =
          by_log (λ other log. other < thread_count → UndoHolds log (ghost.event other)) machine.logs thread log
          in_logs (λ _. holds) (λ other differs. machine_holds.logs other)

      keeps_then : Keeps (entries_of start machine ghost) (entries_of start (with_log machine thread log) ghost) (length history)
      keeps_then =
          keep_view start.before machine.logs ghost.event ghost.time ghost.made (length history) thread log in_logs
          next_same (omega (arith, head_is)) durable_grows

      heads-then : (other : ℕ) → (log_at (set machine.logs thread log) other).head.0 ≡ (log_at machine.logs other).head.0
      heads-then =
          by_log (λ other log. log.head.0 ≡ (log_at machine.logs other).head.0) machine.logs thread log in_logs
          head_is (λ other differs. refl)

      locks-then : SameLocks (locks_of machine) (locks_of (with_log machine thread log))
      locks-then = record {
        releasing_same =
            by_log (λ other log. log.tail.releasing ≡ (log_at machine.logs other).tail.releasing) machine.logs
            thread log in_logs releasing_is (λ other differs. refl);
        holder_same = λ lock. refl;
        count_same = λ lock. refl;
      }

      -- the step with this log and this cache
      quiet-log : (cache : Cache) (fed : Fed) → Quiet history (entries_of start machine ghost) fed →
          Sized (with_log (with_cache machine cache) thread log) →
          CacheLaws.Sized cache → CacheLaws.DurableKept cache →
          ((cell : ℕ) → cached_at cache cell ≡ cached_at machine.cache cell) →
          ((cell : ℕ) →
          (persisted_at cache cell ≡ cached_at machine.cache cell) ⊎ (persisted_at cache cell ≡ persisted_at machine.cache cell)) →
          MachineInvariant start (with_log (with_cache machine cache) thread log) (and_then history fed) ghost
      quiet-log cache fed quiet sized cache_sized durable_kept cached persisted =
          machine_quiet
          (record {
            quiet = quiet;
            same_event = refl;
            same_time = refl;
            same_made = refl;
            sized = sized;
            logs = logs-then;
            cache_sized = cache_sized;
            durable_kept = durable_kept;
            keeps = keeps_then;
            head_same = heads-then;
            same_locks = locks-then;
            pruned_same = λ lock. refl;
            cells = cache-cells cache cached persisted (with_log machine thread log) keeps_then heads-then;
          })
          machine_holds

    pub machine-flush-log : AllFail (tests_of machine FLUSHLOG thread place value) →
        MachineInvariant start (effect machine FLUSHLOG thread place value).machine
        (and_then history (took_step FLUSHLOG thread place value)) ghost
    unfolding effect flush_log_effect flush_log_of flushed_tail
    machine-flush-log fails =
        let in_range = flush_log_asked machine thread place value fails in
        let log = log_at machine.logs thread in
        quiet-log
        (flush_log_of log)
        in_range
        (flush-holds log (ghost.event thread) (machine_holds.logs thread in_range))
        refl
        refl
        (omega arith)
        refl
        machine.cache
        (took_step FLUSHLOG thread place value)
        (quiet_step 8 thread place value (omega arith) in_range)
        (effect-sized machine machine_holds.sized FLUSHLOG thread place value fails)
        machine_holds.cache_sized
        machine_holds.durable_kept
        (λ cell. refl)
        (λ cell. inr refl)

    pub machine-fence : AllFail (tests_of machine FENCE thread place value) →
        MachineInvariant start (effect machine FENCE thread place value).machine
        (and_then history (took_step FENCE thread place value)) ghost
    unfolding effect fence_effect fence_log_of fenced_tail
    machine-fence fails =
        let in_range = fence_asked machine thread place value fails in
        let log = log_at machine.logs thread in
        let holds = machine_holds.logs thread in_range in
        quiet-log
        (fence_log_of log)
        in_range
        (fence-holds log (ghost.event thread) holds)
        refl
        refl
        holds.durable_flushed
        refl
        (fence_of machine.cache thread)
        (took_step FENCE thread place value)
        (quiet_step 9 thread place value (omega arith) in_range)
        (effect-sized machine machine_holds.sized FENCE thread place value fails)
        (CacheLaws.fence_of-sized machine.cache machine_holds.cache_sized thread)
        (CacheLaws.fence_of-kept machine.cache machine_holds.cache_sized thread machine_holds.durable_kept)
        (CacheLaws.fence_of-cached machine.cache machine_holds.cache_sized thread)
        (λ cell. kept-or-same (is_pending machine.cache thread (line_of cell)) (cached_at machine.cache cell)
        (persisted_at machine.cache cell)
        (CacheLaws.fence_of-persisted machine.cache machine_holds.cache_sized thread cell))

    -- words of a live entry are evicted, however many, and nothing else changes
    words-evicted : (kind count : ℕ) → Aside kind → SlotAsked machine thread place →
        Sized (with_log machine thread (evict_words_of (log_at machine.logs thread) place count)) →
        MachineInvariant start (with_log machine thread (evict_words_of (log_at machine.logs thread) place count))
        (and_then history (record { kind = kind; thread = thread; place = place; value = value; accepted = true })) ghost
    unfolding evict_words_of
    words-evicted kind count aside asked sized =
        let log = log_at machine.logs thread in
        quiet-log
        (evict_words_of log place count)
        asked.in_thread
        (tear-holds log (ghost.event thread) (machine_holds.logs thread asked.in_thread) place count asked.is_live)
        refl
        refl
        (omega arith)
        refl
        machine.cache
        _
        (quiet_step kind thread place value aside asked.in_thread)
        sized
        machine_holds.cache_sized
        machine_holds.durable_kept
        (λ cell. refl)
        (λ cell. inr refl)

    pub machine-evict-log : AllFail (tests_of machine EVICTLOG thread place value) →
        MachineInvariant start (effect machine EVICTLOG thread place value).machine
        (and_then history (took_step EVICTLOG thread place value)) ghost
    unfolding effect evict_log_effect
    machine-evict-log fails =
        words-evicted 12 entry_words (omega arith) (evict_log_asked machine thread place value fails)
        (effect-sized machine machine_holds.sized EVICTLOG thread place value fails)

    pub machine-evict-words : AllFail (tests_of machine EVICTWORDS thread place value) →
        MachineInvariant start (effect machine EVICTWORDS thread place value).machine
        (and_then history (took_step EVICTWORDS thread place value)) ghost
    unfolding effect evict_words_effect
    machine-evict-words fails =
        words-evicted 14 value (omega arith) (evict_words-asked machine thread place value fails)
        (effect-sized machine machine_holds.sized EVICTWORDS thread place value fails)

    -- the versions after a STORE: the newest of the cell has the value after it
    abbrev pub stored_versions : Ghost
    stored_versions = record {
      event = ghost.event;
      time = ghost.time;
      made = ghost.made;
      versions = set_at ghost.versions place (restored value (ghost.versions place));
    }

    -- the cell's entry in the thread's current region, where it is found
    pub logged-entry : thread < thread_count → (number : Lsn) → logged_of (log_at machine.logs thread) place ≡ Some number →
        (old : ℕ) × Is (entries_of start machine ghost) thread number.0 (Store place old) ×
        NoBoundaryAfter (entries_of start machine ghost) thread number.0 × ((log_at machine.logs thread).head.0 ≤ number.0)
    logged-entry in_thread number is_at =
        let holds = machine_holds.logs thread in_thread in
        let found = logged-at (log_at machine.logs thread) (ghost.event thread) holds place number.0 is_at in
        let since = machine_holds.begins thread in_thread in
        let from = found.logged_from in (
          found.old,
          record { made = record { since = omega arith; below = found.logged_to }; says = found.store_is },
          (λ later after made. (found.no_acquire_after later after made.below, found.no_release_after later after made.below)),
          from,
        )

    -- the cell's entry in the thread's current region, which STORE asks for
    pub stored-entry : AllFail (tests_of machine STORE thread place value) →
        (number old : ℕ) × Is (entries_of start machine ghost) thread number (Store place old) ×
        NoBoundaryAfter (entries_of start machine ghost) thread number ×
        ((log_at machine.logs thread).head.0 ≤ number) × (number ≤ (log_at machine.logs thread).tail.durable.0)
    stored-entry fails =
        let asked = store_asked machine thread place value fails in
        let found = logged-entry asked.in_thread (lsn asked.number) asked.is_logged in
        (asked.number, found.0, found.1, found.2, found.3, asked.is_durable)

    -- the thread took a LOG that made that entry, and no RELEASE since: that would stand at a RELEASE entry of the region
    pub logged-now : thread < thread_count → (number : Lsn) → logged_of (log_at machine.logs thread) place ≡ Some number →
        LoggedNow history thread place
    logged-now in_thread number is_at =
        let entries = entries_of start machine ghost in
        let found = logged-entry in_thread number is_at in
        let step = machine_holds.times.entry_step found.1 in
        let at = ghost.time thread number.0 in
        record {
          place = at;
          is_log = record { is_accepted = step.is_accepted; is_sort = (step.is_kind, step.is_place) };
          is_thread = step.is_thread;
          no_release = λ later from is is_thread.
              let release = machine_holds.places.release_at is in
              let last = made_by entries history thread (suc later) in
              let is_release : Is entries thread last (Release _ _) = rw is_thread at release.1 in
              let stood : made_by entries history thread (suc at) ≡ number.0 = rw step.is_thread at step.is_last in
              let grew = made_grows entries history thread (suc at) (suc later) (omega arith) in
              by_cases
              (ℕ_discrete number.0 last)
              (λ same.
              let store = subst (λ (n : ℕ). ghost.event thread n ≡ Store place found.0) same found.1.says in
              omega (arith, ap kind_of (sym is_release.says ∙ store)))
              (λ differs.
              true≢false
              (sym (ap Regions.is_release is_release.says) ∙ (found.2 last (omega (arith, differs)) is_release.made).1));
        }

    -- a LOG of a cell that the current region has an entry of makes none: it stands in that region, at or after that entry
    pub machine-log-again : AllFail (tests_of machine LOG thread place value) → (number : Lsn) →
        logged_of (log_at machine.logs thread) place ≡ Some number →
        MachineInvariant start machine (and_then history (took_step LOG thread place value)) ghost
    machine-log-again fails number is_at =
        let in_thread = (log_asked machine thread place value fails).in_thread in
        let found = logged-entry in_thread number is_at in
        let counted = machine_holds.places.next_is thread in_thread in
        let since = found.1.made.since in
        let below = found.1.made.below in
        let is_last : Made (entries_of start machine ghost) thread (made_by (entries_of start machine ghost) history thread (length history)) =
        record { since = omega arith; below = omega arith } in
        machine-aside
        machine.cache
        machine.accesses
        (took_step LOG thread place value)
        ghost
        refl
        refl
        refl
        (record {
          thread = λ is_accepted. in_thread;
          no_release = λ is_accepted is_kind. omega arith;
          no_boundary = λ is_accepted is_kind. ⊎_elim (λ is_acquire. omega arith) (λ is_logrel. omega arith) is_kind;
          logged = λ is_accepted is_kind. record {
            number = number.0;
            old = found.0;
            is_entry = found.1;
            is_last = is_last;
            up_to = omega arith;
            no_boundary = λ later after within. found.2 later after (record { since = omega arith; below = omega arith });
          };
        })
        machine_holds.sized
        machine_holds.cache_sized
        machine_holds.durable_kept
        machine_holds.cells

    -- what STORE does to the cell
    pub stores-cell : (fails : AllFail (tests_of machine STORE thread place value)) →
        StoresCell (entries_of start machine ghost) thread (stored-entry fails).0 place value
        (contents_of start machine.cache) (contents_of start (store_of machine.cache place value))
        ghost.versions stored_versions.versions
    unfolding store_of
    stores-cell fails =
        let asked = store_asked machine thread place value fails in
        let found = stored-entry fails in
        record {
          newest_durable = record {
            is_newest = machine_holds.cells.current found.2 found.3;
            live = found.4;
            is_durable = found.5;
          };
          start_same = λ other. refl;
          cached_self = get_or-set_same machine.cache.cached place value 0 (rw machine_holds.cache_sized.cached-long asked.in_cell);
          cached_other = λ other differs. get_or-set_other machine.cache.cached place other value 0 differs;
          persisted_same = λ other. refl;
          versions_self = set_at_here ghost.versions place (restored value (ghost.versions place));
          versions_other = λ other differs. set_at-other ghost.versions place (restored value (ghost.versions place)) other differs;
        }

    pub machine-store : AllFail (tests_of machine STORE thread place value) →
        MachineInvariant start (effect machine STORE thread place value).machine
        (and_then history (took_step STORE thread place value)) stored_versions
    unfolding effect store_effect
    machine-store fails =
        machine-aside
        (store_of machine.cache place value)
        machine.accesses
        (took_step STORE thread place value)
        stored_versions
        refl
        refl
        refl
        (quiet_step 3 thread place value (omega arith)
        (store_asked machine thread place value fails).in_thread)
        (effect-sized machine machine_holds.sized STORE thread place value fails)
        (CacheLaws.store_of-sized machine.cache machine_holds.cache_sized place value)
        (CacheLaws.store_of-kept machine.cache machine_holds.cache_sized place value machine_holds.durable_kept)
        (cells_store (stores-cell fails) machine_holds.cells)
