-- The machine's arrays keep their lengths.
use Prim.Native.Nat.{ℕ, ◌-◌}
use mathlib.Core.Path.{◌≡◌, refl}
use mathlib.Core.List.{List}
use lib.ListN.{length, length-set}
use Rattle.sizes.specs.Sizes.{thread_count, lock_count}
use Rattle.answer.proofs.RefusalLaws.{AllFail}
use Rattle.cache.specs.declared.Cache.{Cache}
use Rattle.undo.specs.Entering.{live_event}
use Rattle.thread_log.specs.Entries.{drop_of}
use Rattle.undo.specs.Regions.{oldest_region}
use Rattle.event.specs.declared.Event.{Event}
use Rattle.event.specs.declared.Event.TheVariants.{Empty, Store, Acquire, Release}
use Rattle.thread_log.specs.declared.Log.{Log}
use Rattle.accesses.specs.Accesses.{loaded_of, logged_cell_of}
use Rattle.machine.specs.Effects.{load_effect, first_log_effect, store_effect, acquire_effect, log_release_effect, release_effect}
use Rattle.machine.specs.Effects.{flush_effect, flush_log_effect, fence_effect, prune_effect, count_pruned}
use Rattle.machine.specs.Effects.{evict_log_effect, evict_cell_effect, evict_words_effect, effect}
use Rattle.machine.specs.Holds.{log_of, with_cache, with_log, start_of}
use Rattle.kinds.specs.declared.Kind.{Kind}
use Rattle.kinds.specs.declared.Kind.TheVariants.{Load as LOAD, Log as LOG, Store as STORE, Acquire as ACQUIRE, LogRel as LOGREL}
use Rattle.kinds.specs.declared.Kind.TheVariants.{Release as RELEASE, Flush as FLUSH, FlushLog as FLUSHLOG, Fence as FENCE}
use Rattle.kinds.specs.declared.Kind.TheVariants.{Prune as PRUNE, EvictLog as EVICTLOG, EvictCell as EVICTCELL, EvictWords as EVICTWORDS}
use Rattle.machine.specs.Runs.{Step, after}
use Rattle.machine.specs.State.{Machine}
use Rattle.machine.proofs.Beginnings.{machine_with, AllIdle, fresh_logs, fresh-all, on-start}
use Rattle.machine.proofs.LogCases.{log_cases}
use Rattle.machine.proofs.StepLaws.{tests_of, after-keeps}

-- the lengths of the machine's arrays
pub record Sized (machine : Machine) : Type 0 where
  pub logs : length machine.logs ≡ thread_count
  pub clocks : length machine.clocks ≡ thread_count
  pub lock_clocks : length machine.lock_clocks ≡ lock_count
  pub locks : length machine.locks ≡ lock_count
  pub stamps : length machine.accesses.stamps ≡ 512
  pub logged : length machine.accesses.logged ≡ 128
  pub loggers : length machine.accesses.loggers ≡ 128

pub pruned_sized : (machine : Machine) (event : Event) → Sized machine → Sized (count_pruned machine event)
pruned_sized machine Empty sized = sized
pruned_sized machine (Store cell old) sized = sized
pruned_sized machine (Acquire lock count) sized = sized
pruned_sized machine (Release lock count) sized = record {
  logs = sized.logs;
  clocks = sized.clocks;
  lock_clocks = sized.lock_clocks;
  locks = simp length-set sized.locks;
  stamps = sized.stamps;
  logged = sized.logged;
  loggers = sized.loggers;
}

pub with_log-sized : (machine : Machine) (thread : ℕ) (log : Log) → Sized machine → Sized (with_log machine thread log)
with_log-sized machine thread log sized = record {
  logs = simp length-set sized.logs;
  clocks = sized.clocks;
  lock_clocks = sized.lock_clocks;
  locks = sized.locks;
  stamps = sized.stamps;
  logged = sized.logged;
  loggers = sized.loggers;
}

pub with_cache-sized : (machine : Machine) (cache : Cache) → Sized machine → Sized (with_cache machine cache)
with_cache-sized machine cache sized = record {
  logs = sized.logs;
  clocks = sized.clocks;
  lock_clocks = sized.lock_clocks;
  locks = sized.locks;
  stamps = sized.stamps;
  logged = sized.logged;
  loggers = sized.loggers;
}

pub effect-sized : (machine : Machine) → Sized machine → (kind : Kind) (thread place value : ℕ)
    → AllFail (tests_of machine kind thread place value) → Sized (effect machine kind thread place value).machine
unfolding effect load_effect first_log_effect store_effect acquire_effect log_release_effect release_effect flush_effect
    flush_log_effect fence_effect prune_effect evict_log_effect evict_cell_effect evict_words_effect loaded_of logged_cell_of
effect-sized machine sized LOAD thread place value fails = record {
  logs = sized.logs;
  clocks = sized.clocks;
  lock_clocks = sized.lock_clocks;
  locks = sized.locks;
  stamps = simp length-set sized.stamps;
  logged = sized.logged;
  loggers = sized.loggers;
}
effect-sized machine sized LOG thread place value fails =
    log_cases
    (λ stepped. Sized stepped.machine)
    machine
    thread
    place
    (λ is_nowhere. record {
      logs = simp length-set sized.logs;
      clocks = sized.clocks;
      lock_clocks = sized.lock_clocks;
      locks = sized.locks;
      stamps = simp length-set sized.stamps;
      logged = simp length-set sized.logged;
      loggers = simp length-set sized.loggers;
    })
    (λ number is_at. sized)
effect-sized machine sized STORE thread place value fails = with_cache-sized machine _ sized
effect-sized machine sized ACQUIRE thread place value fails = record {
  logs = simp length-set sized.logs;
  clocks = simp length-set sized.clocks;
  lock_clocks = sized.lock_clocks;
  locks = simp length-set sized.locks;
  stamps = sized.stamps;
  logged = sized.logged;
  loggers = sized.loggers;
}
effect-sized machine sized LOGREL thread place value fails = with_log-sized machine thread _ sized
effect-sized machine sized RELEASE thread place value fails = record {
  logs = simp length-set sized.logs;
  clocks = simp length-set sized.clocks;
  lock_clocks = simp length-set sized.lock_clocks;
  locks = simp length-set sized.locks;
  stamps = sized.stamps;
  logged = sized.logged;
  loggers = sized.loggers;
}
effect-sized machine sized FLUSH thread place value fails = with_cache-sized machine _ sized
effect-sized machine sized FLUSHLOG thread place value fails = with_log-sized machine thread _ sized
effect-sized machine sized FENCE thread place value fails = record {
  logs = simp length-set sized.logs;
  clocks = sized.clocks;
  lock_clocks = sized.lock_clocks;
  locks = sized.locks;
  stamps = sized.stamps;
  logged = sized.logged;
  loggers = sized.loggers;
}
effect-sized machine sized PRUNE thread place value fails =
    pruned_sized (with_log machine thread (drop_of (log_of machine thread) (oldest_region (log_of machine thread))))
    (live_event (log_of machine thread) (oldest_region (log_of machine thread) - 1))
    (with_log-sized machine thread _ sized)
effect-sized machine sized EVICTLOG thread place value fails = with_log-sized machine thread _ sized
effect-sized machine sized EVICTCELL thread place value fails = with_cache-sized machine _ sized
effect-sized machine sized EVICTWORDS thread place value fails = with_log-sized machine thread _ sized

-- the lengths at a beginning
pub begin_sized : (cells : List ℕ) (logs : List Log) → AllIdle logs → Sized (machine_with cells logs)
begin_sized cells logs all = record {
  logs = all.for_threads;
  clocks = refl;
  lock_clocks = refl;
  locks = refl;
  stamps = refl;
  logged = refl;
  loggers = refl;
}

-- every machine that the start call and steps lead to has its arrays whole
pub after-sized : (words : List ℕ) (steps : List Step) → Sized (after (start_of words).machine steps)
after-sized words steps =
    after-keeps Sized effect-sized (start_of words).machine
    (on-start Sized (λ cells is_length. begin_sized cells fresh_logs fresh-all) words) steps
