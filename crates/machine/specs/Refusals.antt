-- "Refused because of the state": for each kind of step, its tests from left to right, asked of the machine's parts.
use Rattle.std.specs.Prelude.{ℕ, List, [], ◌++◌}
use Rattle.answer.specs.Refusals.{Test}
use Rattle.thread_log.specs.Entries.{append_tests, evict_slot_tests}
use Rattle.undo.specs.Regions.{store_tests_on}
use Rattle.kinds.specs.declared.Kind.{Kind}
use Rattle.kinds.specs.declared.Kind.TheVariants.{Load as LOAD, Log as LOG, Store as STORE, Acquire as ACQUIRE, LogRel as LOGREL}
use Rattle.kinds.specs.declared.Kind.TheVariants.{Release as RELEASE, Flush as FLUSH, FlushLog as FLUSHLOG, Fence as FENCE}
use Rattle.kinds.specs.declared.Kind.TheVariants.{Prune as PRUNE, EvictLog as EVICTLOG, EvictCell as EVICTCELL, EvictWords as EVICTWORDS}
use Rattle.accessing.specs.Loads.{load_tests_on}
use Rattle.accessing.specs.Logs.{log_tests_on}
use Rattle.locks.specs.LockSteps.{acquire_tests_on, log_release_tests_on, release_tests}
use Rattle.prune.specs.Pruning.{prune_tests}
use Rattle.machine.specs.Holds.{log_of, lock_of, clock_of}
use Rattle.machine.specs.State.{Machine}

-- LOAD 8
unfoldable pub load_tests : Machine → ℕ → ℕ → List Test
load_tests machine thread cell = load_tests_on machine.accesses (clock_of machine thread) cell

-- LOG 7, and of a cell without an entry in the current region 8, 6, 5
unfoldable pub log_tests : Machine → ℕ → ℕ → List Test
log_tests machine thread cell = log_tests_on (log_of machine thread) machine.accesses (clock_of machine thread) cell

-- STORE 7, 10, 11
unfoldable pub store_tests : Machine → ℕ → ℕ → List Test
store_tests machine thread cell = store_tests_on (log_of machine thread) cell

-- ACQUIRE 7, 12, 6, 5
unfoldable pub acquire_tests : Machine → ℕ → ℕ → List Test
acquire_tests machine thread lock =
    acquire_tests_on (log_of machine thread) (lock_of machine lock) ++ append_tests (log_of machine thread)

-- LOGREL 7, 13, 6, 5
unfoldable pub log_release_tests : Machine → ℕ → ℕ → List Test
log_release_tests machine thread lock =
    log_release_tests_on (log_of machine thread) (lock_of machine lock) thread ++ append_tests (log_of machine thread)

-- "LOAD 8. .. STORE 7, 10, 11. ACQUIRE 7, 12, 6, 5. LOGREL 7, 13, 6, 5. RELEASE 14, 11. PRUNE 15, 11, 16, 17. EVICTLOG 18. Others
-- none." Document 02: "LOG's order is 7, 8, 6, 5", and step 14 asks "3 for its slot, then new 19 .., then 18".
unfoldable pub state_tests : Machine → Kind → ℕ → ℕ → List Test
state_tests machine LOAD thread place = load_tests machine thread place
state_tests machine LOG thread place = log_tests machine thread place
state_tests machine STORE thread place = store_tests machine thread place
state_tests machine ACQUIRE thread place = acquire_tests machine thread place
state_tests machine LOGREL thread place = log_release_tests machine thread place
state_tests machine RELEASE thread place = release_tests (log_of machine thread) place
state_tests machine FLUSH thread place = []
state_tests machine FLUSHLOG thread place = []
state_tests machine FENCE thread place = []
state_tests machine PRUNE thread place = prune_tests (log_of machine thread) machine.cache machine.locks
state_tests machine EVICTLOG thread place = evict_slot_tests (log_of machine thread) place
state_tests machine EVICTCELL thread place = []
state_tests machine EVICTWORDS thread place = evict_slot_tests (log_of machine thread) place
