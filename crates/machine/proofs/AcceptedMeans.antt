-- What it means, kind by kind, that every test of a step failed: what an accepted step's fields and the machine before it are like.
use Rattle.std.specs.Prelude.{Option, None, Some}
use Prim.Native.Nat.{ℕ, ◌+◌, ◌-◌, ◌≤◌, ◌<◌}
use mathlib.Core.Path.{◌≡◌, refl, ap, subst}
use mathlib.Core.Bool.{true, false, not, true≢false}
use lib.Dec.{ltb, eqb}
use borrow.Author.Tests.{ltb-true, ltb-false, eqb-true, not-false}
use Rattle.sizes.specs.Sizes.{thread_count, lock_count}
use Rattle.answer.specs.Lists.{some_below}
use Rattle.answer.specs.Refusals.{guarded}
use Rattle.answer.proofs.RefusalLaws.{AllFail, guarded-asked}
use Rattle.undo.specs.Entering.{live_event}
use Rattle.thread_log.specs.Entries.{append_tests, is_live_slot, evict_slot_tests}
use Rattle.undo.specs.Regions.{logged_of, oldest_region, is_finished, is_found, is_undurable_found}
use Rattle.ring.specs.Ring.{lsn}
use Rattle.ring.specs.declared.Lsn.{Lsn}
use Rattle.tail.specs.Tail.{is_releasing, is_releasing_lock}
use Rattle.thread_log.specs.declared.Log.{Log}
use Rattle.machine.specs.Clocks.{load_races, log_races}
use Rattle.accessing.specs.Logs.{first_log_tests}
use Rattle.machine.specs.Holds.{log_of, lock_of, clock_of}
use Rattle.locks.specs.Locks.{is_held, is_held_by}
use Rattle.kinds.specs.Kinds.{input_tests}
use Rattle.kinds.specs.declared.Kind.TheVariants.{Load as LOAD, Log as LOG, Store as STORE, Acquire as ACQUIRE, LogRel as LOGREL}
use Rattle.kinds.specs.declared.Kind.TheVariants.{Release as RELEASE, Flush as FLUSH, FlushLog as FLUSHLOG, Fence as FENCE}
use Rattle.kinds.specs.declared.Kind.TheVariants.{Prune as PRUNE, EvictLog as EVICTLOG, EvictCell as EVICTCELL, EvictWords as EVICTWORDS}
use Rattle.locks.specs.LockSteps.{release_tests}
use Rattle.prune.specs.Pruning.{awaits_release, logs_undurable, prune_tests}
use Rattle.machine.specs.Refusals.{load_tests, log_tests, store_tests, acquire_tests, log_release_tests, state_tests}
use Rattle.machine.specs.State.{Machine}
use Rattle.machine.proofs.StepLaws.{tests_of}

below-bound : (number bound : ℕ) → not (ltb number bound) ≡ false → number < bound
below-bound number bound fails = ltb-true number bound (not-false (ltb number bound) fails)

is_zero : (number : ℕ) → not (eqb number 0) ≡ false → number ≡ 0
is_zero number fails = eqb-true number 0 (not-false (eqb number 0) fails)

pub releases-nothing : (releasing : Option ℕ) → is_releasing releasing ≡ false → releasing ≡ None
releases-nothing None fails = refl
releases-nothing (Some lock) fails = absurd (true≢false fails)

releases_lock : (releasing : Option ℕ) (lock : ℕ) → not (is_releasing_lock releasing lock) ≡ false → releasing ≡ Some lock
releases_lock None lock fails = absurd (true≢false fails)
releases_lock (Some held) lock fails = ap Some (eqb-true held lock (not-false (eqb held lock) fails))

pub held-by_nobody : (holder : Option ℕ) → is_held holder ≡ false → holder ≡ None
held-by_nobody None fails = refl
held-by_nobody (Some thread) fails = absurd (true≢false fails)

held-by_thread : (holder : Option ℕ) (thread : ℕ) → not (is_held_by holder thread) ≡ false → holder ≡ Some thread
held-by_thread None thread fails = absurd (true≢false fails)
held-by_thread (Some holder) thread fails = ap Some (eqb-true holder thread (not-false (eqb holder thread) fails))

found_durable : (log : Log) (found : Option Lsn) → not (is_found found) ≡ false → is_undurable_found log found ≡ false
    → (number : ℕ) × (found ≡ Some (lsn number)) × (number ≤ log.tail.durable.0)
found_durable log None is_found is_durable = absurd (true≢false is_found)
found_durable log (Some number) is_found is_durable = (number.0, refl, ltb-false log.tail.durable.0 number.0 is_durable)

pub record LoadAsked (machine : Machine) (thread cell value : ℕ) : Type 0 where
  pub in_thread : thread < thread_count
  pub in_cell : cell < 128
  pub no_value : value ≡ 0
  pub no_race : load_races machine thread cell ≡ false

pub load_asked : (machine : Machine) (thread cell value : ℕ) → AllFail (tests_of machine LOAD thread cell value)
    → LoadAsked machine thread cell value
unfolding input_tests state_tests load_tests load_races
load_asked machine thread cell value fails = record {
  in_thread = below-bound thread thread_count fails.0;
  in_cell = below-bound cell 128 fails.1.0;
  no_value = is_zero value fails.1.1.0;
  no_race = fails.1.1.1.0;
}

-- of every LOG
pub record LogAsked (machine : Machine) (thread cell value : ℕ) : Type 0 where
  pub in_thread : thread < thread_count
  pub in_cell : cell < 128
  pub no_value : value ≡ 0
  pub not_releasing : (log_of machine thread).tail.releasing ≡ None

pub log_asked : (machine : Machine) (thread cell value : ℕ) → AllFail (tests_of machine LOG thread cell value)
    → LogAsked machine thread cell value
unfolding input_tests state_tests log_tests
log_asked machine thread cell value fails = record {
  in_thread = below-bound thread thread_count fails.0;
  in_cell = below-bound cell 128 fails.1.0;
  no_value = is_zero value fails.1.1.0;
  not_releasing = releases-nothing (log_of machine thread).tail.releasing fails.1.1.1.0;
}

-- of a LOG that makes an entry
pub record FirstLogAsked (machine : Machine) (thread cell : ℕ) : Type 0 where
  pub no_race : log_races machine thread cell ≡ false
  pub room : AllFail (append_tests (log_of machine thread))

pub first_log_asked : (machine : Machine) (thread cell value : ℕ) → AllFail (tests_of machine LOG thread cell value)
    → logged_of (log_of machine thread) cell ≡ None → FirstLogAsked machine thread cell
unfolding input_tests state_tests log_tests log_races
first_log_asked machine thread cell value fails is_nowhere =
    let tests = first_log_tests (log_of machine thread) machine.accesses (clock_of machine thread) cell in
    let asked : AllFail (guarded true tests) =
    subst (λ (found : Option Lsn). AllFail (guarded (not (is_found found)) tests)) is_nowhere fails.1.1.1.1 in
    let own : AllFail tests = subst AllFail (guarded-asked tests) asked in
    record { no_race = own.0; room = own.1 }

pub record StoreAsked (machine : Machine) (thread cell : ℕ) : Type 0 where
  pub in_thread : thread < thread_count
  pub in_cell : cell < 128
  pub not_releasing : (log_of machine thread).tail.releasing ≡ None
  pub number : ℕ
  pub is_logged : logged_of (log_of machine thread) cell ≡ Some (lsn number)
  pub is_durable : number ≤ (log_of machine thread).tail.durable.0

pub store_asked : (machine : Machine) (thread cell value : ℕ) → AllFail (tests_of machine STORE thread cell value)
    → StoreAsked machine thread cell
unfolding input_tests state_tests store_tests
store_asked machine thread cell value fails =
    let found =
    found_durable (log_of machine thread) (logged_of (log_of machine thread) cell) fails.1.1.1.1.0 fails.1.1.1.1.1.0 in
    record {
      in_thread = below-bound thread thread_count fails.0;
      in_cell = below-bound cell 128 fails.1.0;
      not_releasing = releases-nothing (log_of machine thread).tail.releasing fails.1.1.1.0;
      number = found.0;
      is_logged = found.1;
      is_durable = found.2;
    }

pub record AcquireAsked (machine : Machine) (thread lock value : ℕ) : Type 0 where
  pub in_thread : thread < thread_count
  pub in_lock : lock < lock_count
  pub no_value : value ≡ 0
  pub not_releasing : (log_of machine thread).tail.releasing ≡ None
  pub is_free : (lock_of machine lock).holder ≡ None
  pub room : AllFail (append_tests (log_of machine thread))

pub acquire_asked : (machine : Machine) (thread lock value : ℕ) → AllFail (tests_of machine ACQUIRE thread lock value)
    → AcquireAsked machine thread lock value
unfolding input_tests state_tests acquire_tests
acquire_asked machine thread lock value fails = record {
  in_thread = below-bound thread thread_count fails.0;
  in_lock = below-bound lock lock_count fails.1.0;
  no_value = is_zero value fails.1.1.0;
  not_releasing = releases-nothing (log_of machine thread).tail.releasing fails.1.1.1.0;
  is_free = held-by_nobody (lock_of machine lock).holder fails.1.1.1.1.0;
  room = fails.1.1.1.1.1;
}

pub record LogReleaseAsked (machine : Machine) (thread lock value : ℕ) : Type 0 where
  pub in_thread : thread < thread_count
  pub in_lock : lock < lock_count
  pub no_value : value ≡ 0
  pub not_releasing : (log_of machine thread).tail.releasing ≡ None
  pub is_held_by_self : (lock_of machine lock).holder ≡ Some thread
  pub room : AllFail (append_tests (log_of machine thread))

pub log_release_asked : (machine : Machine) (thread lock value : ℕ) → AllFail (tests_of machine LOGREL thread lock value)
    → LogReleaseAsked machine thread lock value
unfolding input_tests state_tests log_release_tests
log_release_asked machine thread lock value fails = record {
  in_thread = below-bound thread thread_count fails.0;
  in_lock = below-bound lock lock_count fails.1.0;
  no_value = is_zero value fails.1.1.0;
  not_releasing = releases-nothing (log_of machine thread).tail.releasing fails.1.1.1.0;
  is_held_by_self = held-by_thread (lock_of machine lock).holder thread fails.1.1.1.1.0;
  room = fails.1.1.1.1.1;
}

pub record ReleaseAsked (machine : Machine) (thread lock value : ℕ) : Type 0 where
  pub in_thread : thread < thread_count
  pub in_lock : lock < lock_count
  pub no_value : value ≡ 0
  pub is_releasing_it : (log_of machine thread).tail.releasing ≡ Some lock
  pub last_durable : (log_of machine thread).tail.next.0 - 1 ≤ (log_of machine thread).tail.durable.0

pub release_asked : (machine : Machine) (thread lock value : ℕ) → AllFail (tests_of machine RELEASE thread lock value)
    → ReleaseAsked machine thread lock value
unfolding input_tests state_tests release_tests
release_asked machine thread lock value fails = record {
  in_thread = below-bound thread thread_count fails.0;
  in_lock = below-bound lock lock_count fails.1.0;
  no_value = is_zero value fails.1.1.0;
  is_releasing_it = releases_lock (log_of machine thread).tail.releasing lock fails.1.1.1.0;
  last_durable = ltb-false (log_of machine thread).tail.durable.0 ((log_of machine thread).tail.next.0 - 1) fails.1.1.1.1.0;
}

pub record FlushAsked (thread line : ℕ) : Type 0 where
  pub in_thread : thread < thread_count
  pub in_line : line < 16

pub flush-asked : (machine : Machine) (thread line value : ℕ) → AllFail (tests_of machine FLUSH thread line value) → FlushAsked thread line
unfolding input_tests
flush-asked machine thread line value fails = record {
  in_thread = below-bound thread thread_count fails.0;
  in_line = below-bound line 16 fails.1.0;
}

-- FLUSHLOG and FENCE ask for a thread alone
pub flush_log_asked : (machine : Machine) (thread place value : ℕ) →
    AllFail (tests_of machine FLUSHLOG thread place value) → thread < thread_count
unfolding input_tests
flush_log_asked machine thread place value fails = below-bound thread thread_count fails.0

pub fence_asked : (machine : Machine) (thread place value : ℕ) → AllFail (tests_of machine FENCE thread place value) → thread < thread_count
unfolding input_tests
fence_asked machine thread place value fails = below-bound thread thread_count fails.0

pub record PruneAsked (machine : Machine) (thread : ℕ) : Type 0 where
  pub in_thread : thread < thread_count
  pub is_finished_region : is_finished (log_of machine thread) ≡ true
  pub is_durable_region : (log_of machine thread).head.0 + oldest_region (log_of machine thread) - 1 ≤ (log_of machine thread).tail.durable.0
  pub awaits_nothing : awaits_release machine.locks (live_event (log_of machine thread) 0) ≡ false
  pub cells_durable : some_below (oldest_region (log_of machine thread))
      (λ index. logs_undurable machine.cache (live_event (log_of machine thread) index)) ≡ false

pub prune_asked : (machine : Machine) (thread place value : ℕ) → AllFail (tests_of machine PRUNE thread place value)
    → PruneAsked machine thread
unfolding input_tests state_tests prune_tests
prune_asked machine thread place value fails = record {
  in_thread = below-bound thread thread_count fails.0;
  is_finished_region = not-false (is_finished (log_of machine thread)) fails.1.1.1.0;
  is_durable_region =
      ltb-false (log_of machine thread).tail.durable.0
      ((log_of machine thread).head.0 + oldest_region (log_of machine thread) - 1) fails.1.1.1.1.0;
  awaits_nothing = fails.1.1.1.1.1.0;
  cells_durable = fails.1.1.1.1.1.1.0;
}

pub evict_cell-asked : (machine : Machine) (thread cell value : ℕ) → AllFail (tests_of machine EVICTCELL thread cell value)
    → (thread < thread_count) × (cell < 128)
unfolding input_tests
evict_cell-asked machine thread cell value fails = (below-bound thread thread_count fails.0, below-bound cell 128 fails.1.0)

-- EVICTLOG and EVICTWORDS ask for a live entry in the slot
pub record SlotAsked (machine : Machine) (thread slot : ℕ) : Type 0 where
  pub in_thread : thread < thread_count
  pub in_slot : slot < 64
  pub is_live : is_live_slot (log_of machine thread) slot ≡ true

pub evict_log_asked : (machine : Machine) (thread slot value : ℕ) → AllFail (tests_of machine EVICTLOG thread slot value)
    → SlotAsked machine thread slot
unfolding input_tests state_tests evict_slot_tests
evict_log_asked machine thread slot value fails = record {
  in_thread = below-bound thread thread_count fails.0;
  in_slot = below-bound slot 64 fails.1.0;
  is_live = not-false (is_live_slot (log_of machine thread) slot) fails.1.1.1.0;
}

pub evict_words-asked : (machine : Machine) (thread slot value : ℕ) → AllFail (tests_of machine EVICTWORDS thread slot value)
    → SlotAsked machine thread slot
unfolding input_tests state_tests evict_slot_tests
evict_words-asked machine thread slot value fails = record {
  in_thread = below-bound thread thread_count fails.0;
  in_slot = below-bound slot 64 fails.1.0;
  is_live = not-false (is_live_slot (log_of machine thread) slot) fails.1.1.1.1.0;
}
