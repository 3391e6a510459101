-- PRUNE, asked of a thread's log, the cells and the locks: its refusals in order, and what it leaves of these parts.
use Rattle.std.specs.Prelude.{Ok, ◌+◌, ◌-◌, Bool, false, not, List, [], ◌∷◌, ltb, get_or}
use Rattle.answer.specs.Lists.{some_below}
use Rattle.answer.specs.Answer.{Answer}
use Rattle.answer.specs.Refusals.{Test, ◌⇒◌, unless}
use Rattle.answer.specs.declared.Refusal.TheVariants.{EntryNotDurable, NothingToPrune, EarlierReleaseNotPruned, CellNotDurable}
use Rattle.cache.specs.Cache.{is_durable}
use Rattle.cache.specs.declared.Cache.{Cache}
use Rattle.thread_log.specs.Entries.{drop_of}
use Rattle.thread_log.specs.declared.Log.{Log}
use Rattle.undo.specs.Entering.{live_event}
use Rattle.undo.specs.Regions.{is_undurable_up_to, oldest_region, is_finished}
use Rattle.event.specs.declared.Event.{Event}
use Rattle.event.specs.declared.Event.TheVariants.{Empty, Store, Acquire, Release}
use Rattle.locks.specs.Locks.{no_lock, counted_locks}
use Rattle.locks.specs.declared.Lock.{Lock}

-- the answer of a PRUNE, beside the thread's log and the locks after it
pub record Pruned : Type 0 where
  pub answer : Answer
  pub log : Log
  pub locks : List Lock

-- 16: "the region begins with ACQUIRE of count k and fewer than k regions ending in a RELEASE of that lock are pruned"
abbrev pub awaits_release : List Lock → Event → Bool
awaits_release locks Empty = false
awaits_release locks (Store cell old) = false
awaits_release locks (Acquire lock count) = ltb (get_or locks lock no_lock).pruned.0 count.0
awaits_release locks (Release lock count) = false

-- 17: the entry logs a cell that isn't durable
abbrev pub logs_undurable : Cache → Event → Bool
logs_undurable cache Empty = false
logs_undurable cache (Store cell old) = not (is_durable cache cell)
logs_undurable cache (Acquire lock count) = false
logs_undurable cache (Release lock count) = false

-- PRUNE 15, 11, 16, 17
unfoldable pub prune_tests : Log → Cache → List Lock → List Test
prune_tests log cache locks =
    (not (is_finished log) ⇒ NothingToPrune) ∷
    (is_undurable_up_to log (log.head.0 + oldest_region log - 1) ⇒ EntryNotDurable) ∷
    (awaits_release locks (live_event log 0) ⇒ EarlierReleaseNotPruned) ∷
    (some_below (oldest_region log) (λ index. logs_undurable cache (live_event log index)) ⇒ CellNotDurable) ∷ []

-- "PRUNE: commits the thread's oldest finished region not yet pruned, by moving the head past it. Answers how many entries that freed."
unfoldable pub prune_on : Log → Cache → List Lock → Pruned
prune_on log cache locks =
    unless
    (λ answer. record { answer = answer; log = log; locks = locks })
    (prune_tests log cache locks)
    (record {
      answer = Ok (oldest_region log);
      log = drop_of log (oldest_region log);
      locks = counted_locks locks (live_event log (oldest_region log - 1));
    })
