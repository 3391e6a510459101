-- "Steps": what each kind does once no refusal holds, and the number that it answers.
use Rattle.std.specs.Prelude.{ℕ, ◌+◌, ◌-◌, Option, None, Some, Ok}
use Rattle.cache.specs.Cache.{cached_at, pending_count, store_of, flush_of, fence_of, evict_cell_of}
use Rattle.undo.specs.Entering.{live_event, enter_of, end_release_of}
use Rattle.tail.specs.Tail.{unfenced}
use Rattle.thread_log.specs.Entries.{flush_log_of, fence_log_of, evict_slot_of, evict_words_of, drop_of}
use Rattle.undo.specs.Regions.{oldest_region, logged_of}
use Rattle.ring.specs.declared.Lsn.{Lsn}
use Rattle.event.specs.declared.Event.{Event}
use Rattle.event.specs.declared.Event.TheVariants.{Store, Acquire, Release}
use Rattle.clocks.specs.Clocks.{join_of, raised_of}
use Rattle.accesses.specs.Accesses.{loaded_of, logged_cell_of}
use Rattle.machine.specs.Clocks.{stamp_now}
use Rattle.machine.specs.Holds.{log_of, lock_of, clock_of, lock_clock_of, with_cache, with_log, with_accesses, with_lock, with_clock}
use Rattle.machine.specs.Holds.{with_lock_clock, with_locks}
use Rattle.locks.specs.Locks.{taken_by, freed_of, pruned_locks}
use Rattle.kinds.specs.declared.Kind.{Kind}
use Rattle.kinds.specs.declared.Kind.TheVariants.{Load as LOAD, Log as LOG, Store as STORE, Acquire as ACQUIRE, LogRel as LOGREL}
use Rattle.kinds.specs.declared.Kind.TheVariants.{Release as RELEASE, Flush as FLUSH, FlushLog as FLUSHLOG, Fence as FENCE}
use Rattle.kinds.specs.declared.Kind.TheVariants.{Prune as PRUNE, EvictLog as EVICTLOG, EvictCell as EVICTCELL, EvictWords as EVICTWORDS}
use Rattle.machine.specs.State.{Machine}
use Rattle.machine.specs.declared.Stepped.{Stepped}

-- "Answer 0 is acceptance, with the number named here, else 0."
abbrev pub accepted : ℕ → Machine → Stepped
accepted given machine = record { answer = Ok given; machine = machine }

-- "LOAD cell: answers its seen content."
unfoldable pub load_effect : Machine → ℕ → ℕ → Stepped
load_effect machine thread cell =
    accepted
    (cached_at machine.cache cell)
    (with_accesses machine (loaded_of machine.accesses thread cell (stamp_now machine thread)))

-- "LOG cell: appends STORE with the seen content. Answers the rank."
unfoldable pub first_log_effect : Machine → ℕ → ℕ → Stepped
first_log_effect machine thread cell =
    accepted
    (log_of machine thread).tail.next.0
    (with_accesses
    (with_log machine thread (enter_of (log_of machine thread) (Store cell (cached_at machine.cache cell))))
    (logged_cell_of machine.accesses thread cell (stamp_now machine thread)))

-- LOG, by the cell's entry in the current region. Document 02, of a LOG where there is one: "It answers the first entry's rank and appends
-- nothing". The machine stays as it is.
abbrev pub log_effect_at : Option Lsn → Machine → ℕ → ℕ → Stepped
log_effect_at None machine thread cell = first_log_effect machine thread cell
log_effect_at (Some number) machine thread cell = accepted number.0 machine

unfoldable pub log_effect : Machine → ℕ → ℕ → Stepped
log_effect machine thread cell = log_effect_at (logged_of (log_of machine thread) cell) machine thread cell

-- "STORE cell, value: sets the seen content. The cell stops being firm. All threads' marks on its line go."
unfoldable pub store_effect : Machine → ℕ → ℕ → Stepped
store_effect machine cell value = accepted 0 (with_cache machine (store_of machine.cache cell value))

-- "ACQUIRE lock: takes it and appends ACQUIRE with the count. Answers the count." The clocks are joined.
unfoldable pub acquire_effect : Machine → ℕ → ℕ → Stepped
acquire_effect machine thread lock =
    accepted
    (lock_of machine lock).count.0
    (with_clock
    (with_lock
    (with_log machine thread (enter_of (log_of machine thread) (Acquire lock (lock_of machine lock).count)))
    lock
    (taken_by (lock_of machine lock) thread))
    thread
    (join_of (clock_of machine thread) (lock_clock_of machine lock)))

-- "LOGREL lock: appends RELEASE with the count; the thread is closing. Answers the count."
unfoldable pub log_release_effect : Machine → ℕ → ℕ → Stepped
log_release_effect machine thread lock =
    accepted
    (lock_of machine lock).count.0
    (with_log machine thread (enter_of (log_of machine thread) (Release lock (lock_of machine lock).count)))

-- "RELEASE lock: frees it, adds 1 to the count, ends closing." The lock gets the thread's clock.
unfoldable pub release_effect : Machine → ℕ → ℕ → Stepped
release_effect machine thread lock =
    accepted
    0
    (with_clock
    (with_lock_clock
    (with_lock
    (with_log machine thread (end_release_of (log_of machine thread)))
    lock
    (freed_of (lock_of machine lock)))
    lock
    (clock_of machine thread))
    thread
    (raised_of (clock_of machine thread) thread))

-- "FLUSH line: puts this thread's mark on the line."
unfoldable pub flush_effect : Machine → ℕ → ℕ → Stepped
flush_effect machine thread line = accepted 0 (with_cache machine (flush_of machine.cache thread line))

-- "FLUSHLOG: marks all of the thread's entries made so far."
unfoldable pub flush_log_effect : Machine → ℕ → Stepped
flush_log_effect machine thread = accepted 0 (with_log machine thread (flush_log_of (log_of machine thread)))

-- "FENCE: each data line with this thread's mark has its seen content kept, its 8 cells are firm, this mark goes. This thread's marked
-- entries are kept and firm." Document 02: it "answers the number of lines with this thread's mark plus its marked entries not yet firm,
-- both as before the step".
unfoldable pub fence_effect : Machine → ℕ → Stepped
fence_effect machine thread =
    accepted
    (pending_count machine.cache thread + unfenced (log_of machine thread).tail)
    (with_log (with_cache machine (fence_of machine.cache thread)) thread (fence_log_of (log_of machine thread)))

-- where the pruned region's last entry is a RELEASE, it counts for that lock
abbrev pub count_pruned : Machine → Event → Machine
count_pruned machine last = with_locks machine (pruned_locks machine.locks last)

-- "PRUNE: commits the thread's oldest finished region not yet pruned, by moving the head past it. Answers how many entries that freed."
unfoldable pub prune_effect : Machine → ℕ → Stepped
prune_effect machine thread =
    let log = log_of machine thread in
    accepted
    (oldest_region log)
    (count_pruned
    (with_log machine thread (drop_of log (oldest_region log)))
    (live_event log (oldest_region log - 1)))

-- "EVICTLOG thread, slot: seen content becomes kept. Nothing becomes firm."
unfoldable pub evict_log_effect : Machine → ℕ → ℕ → Stepped
evict_log_effect machine thread slot =
    accepted 0 (with_log machine thread (evict_slot_of (log_of machine thread) slot))

-- "EVICTCELL, place a cell: its seen content alone becomes kept." (document 02)
unfoldable pub evict_cell_effect : Machine → ℕ → Stepped
evict_cell_effect machine cell = accepted 0 (with_cache machine (evict_cell_of machine.cache cell))

-- "EVICTWORDS, thread, place a slot, value 1 to 4: the first so many words of the live entry there become kept, in the order kind, place,
-- value, rank. Neither makes anything firm." (document 02)
unfoldable pub evict_words_effect : Machine → ℕ → ℕ → ℕ → Stepped
evict_words_effect machine thread slot count =
    accepted 0 (with_log machine thread (evict_words_of (log_of machine thread) slot count))

unfoldable pub effect : Machine → Kind → ℕ → ℕ → ℕ → Stepped
effect machine LOAD thread place value = load_effect machine thread place
effect machine LOG thread place value = log_effect machine thread place
effect machine STORE thread place value = store_effect machine place value
effect machine ACQUIRE thread place value = acquire_effect machine thread place
effect machine LOGREL thread place value = log_release_effect machine thread place
effect machine RELEASE thread place value = release_effect machine thread place
effect machine FLUSH thread place value = flush_effect machine thread place
effect machine FLUSHLOG thread place value = flush_log_effect machine thread
effect machine FENCE thread place value = fence_effect machine thread
effect machine PRUNE thread place value = prune_effect machine thread
effect machine EVICTLOG thread place value = evict_log_effect machine thread place
effect machine EVICTCELL thread place value = evict_cell_effect machine place
effect machine EVICTWORDS thread place value = evict_words_effect machine thread place value
