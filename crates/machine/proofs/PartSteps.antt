-- Each kind's step, where its input is accepted: what its part function answers and leaves of the machine's parts, put in their places. A
-- refused part is as it was, so the machine is.
use Rattle.std.specs.Prelude.{Ok, Err, None, Option, Some}
use Prim.Native.Nat.{ℕ, ◌-◌}
use native.Mathlib.Omega.{arith}
use mathlib.Core.Path.{◌≡◌, refl, sym, ap, ◌∙◌}
use mathlib.Core.List.{List, []}
use lib.Seq.{set-get_or}
use Rattle.answer.specs.Answer.{Answer, number_of}
use Rattle.answer.specs.Refusals.{unless, first_refusal}
use Rattle.answer.specs.declared.Refusal.{Refusal}
use Rattle.answer.proofs.RefusalLaws.{AllFail, not-zero, unless-both}
use Rattle.cache.specs.Cache.{cached_at}
use Rattle.sizes.specs.Sizes.{entry_words}
use Rattle.ring.specs.declared.Lsn.{Lsn}
use Rattle.thread_log.specs.Entries.{Changed, evict_slot_tests, evict_words_of, evicted_words_of, drop_of}
use Rattle.thread_log.specs.declared.Log.{Log}
use Rattle.undo.specs.Entering.{live_event, enter_of, end_release_of}
use Rattle.event.specs.Events.{place_of}
use Rattle.undo.specs.Regions.{oldest_region, logged_of, store_tests_on}
use Rattle.event.specs.declared.Event.TheVariants.{Acquire, Release}
use Rattle.kinds.specs.Kinds.{kind_of, input_tests}
use Rattle.kinds.specs.declared.Kind.{Kind}
use Rattle.kinds.specs.declared.Kind.TheVariants.{Load as LOAD, Log as LOG, Store as STORE, Acquire as ACQUIRE, LogRel as LOGREL}
use Rattle.kinds.specs.declared.Kind.TheVariants.{Release as RELEASE, Flush as FLUSH, FlushLog as FLUSHLOG, Fence as FENCE}
use Rattle.kinds.specs.declared.Kind.TheVariants.{Prune as PRUNE, EvictLog as EVICTLOG, EvictCell as EVICTCELL, EvictWords as EVICTWORDS}
use Rattle.clocks.specs.Clocks.{no_clock, clock_at, join_of, raise_of}
use Rattle.accesses.specs.Accesses.{loaded_of}
use Rattle.accessing.specs.Loads.{Loaded, load_on}
use Rattle.accessing.specs.Logs.{Logged, log_on, logged_at}
use Rattle.clocks.proofs.ClockLaws.{raise_grows}
use Rattle.locks.specs.Locks.{no_lock, taken_by, free_of, counted_locks}
use Rattle.locks.specs.LockSteps.{Handed, acquire_on, log_release_on, release_on}
use Rattle.locks.proofs.LockLaws.{free_grows, counted-grows}
use Rattle.prune.specs.Pruning.{Pruned, prune_on}
use Rattle.machine.specs.Effects.{accepted, effect, load_effect, first_log_effect, log_effect_at, log_effect, store_effect}
use Rattle.machine.specs.Effects.{acquire_effect, log_release_effect, release_effect, prune_effect, evict_log_effect}
use Rattle.machine.specs.Effects.{evict_words_effect}
use Rattle.machine.specs.Holds.{no_log, log_of, lock_of, clock_of, lock_clock_of, with_log, with_locks, with_lock, with_clock}
use Rattle.machine.specs.Holds.{with_lock_clock, with_accesses}
use Rattle.machine.specs.Refusals.{state_tests, load_tests, log_tests, store_tests, acquire_tests, log_release_tests}
use Rattle.machine.specs.Steps.{refused, step_of}
use Rattle.machine.specs.State.{Machine}
use Rattle.machine.specs.declared.Stepped.{Stepped}
use Rattle.machine.proofs.Counts.{Counted, count_bound, clock_bound, pruned_bound}
use Rattle.machine.proofs.Inputs.{input-accepted}

-- the input of a step of this kind is accepted
abbrev pub Accepts : Kind → ℕ → ℕ → ℕ → ℕ → Type 0
Accepts kind thread place value given = first_refusal (input_tests kind thread place value) ≡ Ok given

-- a part function's answer tells the step: where it is acceptance the parts are put in their places, and where not nothing is
abbrev pub Tells : Machine → Stepped → Answer → Stepped → Type 0
Tells machine step answer put = (number_of answer ≡ 0 → put ≡ step) × ((number_of answer ≡ 0 → ⊥) → refused machine answer ≡ step)

module _ (machine : Machine) (thread place value number : ℕ) (kind : Kind) (is_kind : kind_of number ≡ Some kind) {given : ℕ}
    (is_accepted : Accepts kind thread place value given) where
  abbrev step : Stepped
  step = step_of machine number thread place value

  -- a kind that the state never refuses
  plain : state_tests machine kind thread place ≡ [] → effect machine kind thread place value ≡ step
  unfolding unless
  plain none = sym (input-accepted machine thread place value number kind is_kind is_accepted ∙ rw none)

  -- a kind whose part function asks the state's tests: what it leaves, put into the machine
  by_part : {B : Type 0} (report : Answer → B) (done : B) (put : B → Stepped)
      → ((refusal : Refusal) → put (report (Err refusal)) ≡ refused machine (Err refusal))
      → (AllFail (state_tests machine kind thread place) → put done ≡ effect machine kind thread place value)
      → put (unless report (state_tests machine kind thread place) done) ≡ step
  by_part report done put kept puts =
      unless-both
      (λ stepped part. put part ≡ stepped)
      (refused machine)
      report
      (state_tests machine kind thread place)
      (effect machine kind thread place value)
      done
      kept
      puts
      ∙ sym (input-accepted machine thread place value number kind is_kind is_accepted)

  -- the same where only an accepted part is put into the machine
  by_answer : {B : Type 0} (report : Answer → B) (done : B) (answer_of : B → Answer) (put : B → Stepped)
      → ((answer : Answer) → answer_of (report answer) ≡ answer) → number_of (answer_of done) ≡ 0
      → (AllFail (state_tests machine kind thread place) → put done ≡ effect machine kind thread place value)
      → let result = unless report (state_tests machine kind thread place) done in Tells machine step (answer_of result) (put result)
  by_answer report done answer_of put reports accepts puts =
      let is_step = input-accepted machine thread place value number kind is_kind is_accepted in
      let both =
      unless-both
      (λ stepped part. Tells machine stepped (answer_of part) (put part))
      (refused machine)
      report
      (state_tests machine kind thread place)
      (effect machine kind thread place value)
      done
      (λ refusal. (
        (λ zero. absurd (not-zero refusal (ap number_of (sym (reports (Err refusal))) ∙ zero))),
        (λ is_refused. ap (refused machine) (reports (Err refusal))),
      ))
      (λ fails. ((λ zero. puts fails), (λ is_refused. absurd (is_refused accepts)))) in
      ((λ zero. both.0 zero ∙ sym is_step), (λ is_refused. both.1 is_refused ∙ sym is_step))

-- a machine's own parts put in their places change nothing
module _ (machine : Machine) (thread : ℕ) where
  same-log : with_log machine thread (log_of machine thread) ≡ machine
  same-log = ap (λ (logs : List Log). record {
    cache = machine.cache;
    logs = logs;
    clocks = machine.clocks;
    lock_clocks = machine.lock_clocks;
    locks = machine.locks;
    accesses = machine.accesses;
  }) (set-get_or machine.logs thread no_log)

  -- the machine with another log, lock and clock
  abbrev pub handed_machine : ℕ → Handed → Machine
  handed_machine place handed = with_clock (with_lock (with_log machine thread handed.log) place handed.lock) thread handed.clock

  same-parts : (place : ℕ) → handed_machine place (record {
    answer = Ok 0;
    log = log_of machine thread;
    lock = lock_of machine place;
    clock = clock_of machine thread;
  }) ≡ machine
  same-parts place = λ i. record {
    cache = machine.cache;
    logs = set-get_or machine.logs thread no_log i;
    clocks = set-get_or machine.clocks thread no_clock i;
    lock_clocks = machine.lock_clocks;
    locks = set-get_or machine.locks place no_lock i;
    accesses = machine.accesses;
  }

module _ (machine : Machine) (thread place : ℕ) where
  -- a LOAD that leaves these accesses
  abbrev pub put_loaded : Loaded → Stepped
  put_loaded loaded = record { answer = loaded.answer; machine = with_accesses machine loaded.accesses }

  pub load_step : {given : ℕ} → Accepts LOAD thread place 0 given
      → put_loaded (load_on machine.accesses (clock_of machine thread) thread place (cached_at machine.cache place)) ≡
      step_of machine 1 thread place 0
  unfolding kind_of load_on state_tests load_tests effect load_effect
  load_step is_accepted =
      by_part
      machine
      thread
      place
      0
      1
      LOAD
      refl
      is_accepted
      (λ answer. record { answer = answer; accesses = machine.accesses })
      (record {
        answer = Ok (cached_at machine.cache place);
        accesses = loaded_of machine.accesses thread place (clock_at (clock_of machine thread) thread);
      })
      put_loaded
      (λ refusal. refl)
      (λ fails. refl)

  -- a LOG that leaves these parts
  abbrev pub put_logged : Logged → Stepped
  put_logged logged = record { answer = logged.answer; machine = with_accesses (with_log machine thread logged.log) logged.accesses }

  -- what an accepted LOG leaves of the log and the accesses; where the cell's entry was found, they are put back as they were
  abbrev log_leaves : Option Lsn → Logged
  log_leaves found =
      logged_at found (log_of machine thread) machine.accesses (clock_of machine thread) thread place (cached_at machine.cache place)

  log-put : (found : Option Lsn) → put_logged (log_leaves found) ≡ log_effect_at found machine thread place
  unfolding first_log_effect
  log-put None = refl
  log-put (Some number) = ap (accepted number.0) (same-log machine thread)

  pub log-step : {given : ℕ} → Accepts LOG thread place 0 given
      → put_logged
      (log_on (log_of machine thread) machine.accesses (clock_of machine thread) thread place (cached_at machine.cache place)) ≡
      step_of machine 2 thread place 0
  unfolding kind_of log_on state_tests log_tests effect log_effect
  log-step is_accepted =
      let found = logged_of (log_of machine thread) place in
      by_part
      machine
      thread
      place
      0
      2
      LOG
      refl
      is_accepted
      (λ answer. record { answer = answer; log = log_of machine thread; accesses = machine.accesses })
      (log_leaves found)
      put_logged
      (λ refusal. ap (λ (kept : Machine). refused kept (Err refusal)) (same-log machine thread))
      (λ fails. log-put found)

  -- an ACQUIRE that leaves these parts
  abbrev pub put_handed : Handed → Stepped
  put_handed handed = record { answer = handed.answer; machine = handed_machine machine thread place handed }

  pub acquire-step : {given : ℕ} → Accepts ACQUIRE thread place 0 given
      → put_handed
      (acquire_on (log_of machine thread) (lock_of machine place) (clock_of machine thread) (lock_clock_of machine place) thread place) ≡
      step_of machine 4 thread place 0
  unfolding kind_of acquire_on state_tests acquire_tests effect acquire_effect
  acquire-step is_accepted =
      by_part
      machine
      thread
      place
      0
      4
      ACQUIRE
      refl
      is_accepted
      (λ answer. record { answer = answer; log = log_of machine thread; lock = lock_of machine place; clock = clock_of machine thread })
      (record {
        answer = Ok (lock_of machine place).count.0;
        log = enter_of (log_of machine thread) (Acquire place (lock_of machine place).count);
        lock = taken_by (lock_of machine place) thread;
        clock = join_of (clock_of machine thread) (lock_clock_of machine place);
      })
      put_handed
      (λ refusal. ap (λ (kept : Machine). refused kept (Err refusal)) (same-parts machine thread place))
      (λ fails. refl)

  -- a LOGREL or an eviction of an entry's words that leaves this log
  abbrev pub put_changed : Changed → Stepped
  put_changed changed = record { answer = changed.answer; machine = with_log machine thread changed.log }

  pub log-release-step : {given : ℕ} → Accepts LOGREL thread place 0 given
      → put_changed (log_release_on (log_of machine thread) (lock_of machine place) thread place) ≡ step_of machine 5 thread place 0
  unfolding kind_of log_release_on state_tests log_release_tests effect log_release_effect
  log-release-step is_accepted =
      by_part
      machine
      thread
      place
      0
      5
      LOGREL
      refl
      is_accepted
      (λ answer. record { answer = answer; log = log_of machine thread })
      (record {
        answer = Ok (lock_of machine place).count.0;
        log = enter_of (log_of machine thread) (Release place (lock_of machine place).count);
      })
      put_changed
      (λ refusal. ap (λ (kept : Machine). refused kept (Err refusal)) (same-log machine thread))
      (λ fails. refl)

  -- a kind that asks for a live entry in the slot and evicts so many of its words
  slot_step : (number value count : ℕ) (kind : Kind) {given : ℕ} → kind_of number ≡ Some kind → Accepts kind thread place value given
      → state_tests machine kind thread place ≡ evict_slot_tests (log_of machine thread) place
      → effect machine kind thread place value ≡ accepted 0 (with_log machine thread (evict_words_of (log_of machine thread) place count))
      → put_changed (evicted_words_of (log_of machine thread) place count) ≡ step_of machine number thread place value
  unfolding evicted_words_of
  slot_step number value count kind is_kind is_accepted is_tests is_effect =
      let told =
      by_part
      machine
      thread
      place
      value
      number
      kind
      is_kind
      is_accepted
      (λ answer. record { answer = answer; log = log_of machine thread })
      (record { answer = Ok 0; log = evict_words_of (log_of machine thread) place count })
      put_changed
      (λ refusal. ap (λ (kept : Machine). refused kept (Err refusal)) (same-log machine thread))
      (λ fails. sym is_effect) in
      rw is_tests at told

  pub evict-log-step : {given : ℕ} → Accepts EVICTLOG thread place 0 given
      → put_changed (evicted_words_of (log_of machine thread) place entry_words) ≡ step_of machine 12 thread place 0
  unfolding kind_of state_tests effect evict_log_effect
  evict-log-step is_accepted = slot_step 12 0 entry_words EVICTLOG refl is_accepted refl refl

  pub evict-words-step : (count : ℕ) {given : ℕ} → Accepts EVICTWORDS thread place count given
      → put_changed (evicted_words_of (log_of machine thread) place count) ≡ step_of machine 14 thread place count
  unfolding kind_of state_tests effect evict_words_effect
  evict-words-step count is_accepted = slot_step 14 count count EVICTWORDS refl is_accepted refl refl

  -- a STORE that was asked and answered so
  abbrev pub put_stored : ℕ → Answer → Stepped
  put_stored value (Ok found) = store_effect machine place value
  put_stored value (Err refusal) = refused machine (Err refusal)

  pub store_step : (value : ℕ) {given : ℕ} → Accepts STORE thread place value given
      → put_stored value (first_refusal (store_tests_on (log_of machine thread) place)) ≡ step_of machine 3 thread place value
  unfolding kind_of first_refusal state_tests store_tests effect
  store_step value is_accepted =
      by_part
      machine
      thread
      place
      value
      3
      STORE
      refl
      is_accepted
      (λ answer. answer)
      (Ok 0)
      (put_stored value)
      (λ refusal. refl)
      (λ fails. refl)

module _ (machine : Machine) (thread place : ℕ) where
  -- a RELEASE that leaves these parts: the lock's clock is the one that the thread had, unless the step is refused
  abbrev released : Answer → Handed → Machine
  released (Ok number) handed =
      with_clock
      (with_lock_clock (with_lock (with_log machine thread handed.log) place handed.lock) place (clock_of machine thread))
      thread
      handed.clock
  released (Err refusal) handed = handed_machine machine thread place handed

  abbrev pub put_released : Handed → Stepped
  put_released handed = record { answer = handed.answer; machine = released handed.answer handed }

  -- a PRUNE that leaves these parts
  abbrev pub put_pruned : Pruned → Stepped
  put_pruned pruned = record { answer = pruned.answer; machine = with_locks (with_log machine thread pruned.log) pruned.locks }

-- counts and clocks of a machine that steps lead to have room to grow
module _ (machine : Machine) (counted : Counted machine) (thread place : ℕ) where
  pub release-step : {given : ℕ} → Accepts RELEASE thread place 0 given
      → put_released machine thread place (release_on (log_of machine thread) (lock_of machine place) (clock_of machine thread) thread place) ≡
      step_of machine 6 thread place 0
  unfolding kind_of release_on state_tests effect release_effect
  release-step is_accepted =
      by_part
      machine
      thread
      place
      0
      6
      RELEASE
      refl
      is_accepted
      (λ answer. record { answer = answer; log = log_of machine thread; lock = lock_of machine place; clock = clock_of machine thread })
      (record {
        answer = Ok 0;
        log = end_release_of (log_of machine thread);
        lock = free_of (lock_of machine place);
        clock = raise_of (clock_of machine thread) thread;
      })
      (put_released machine thread place)
      (λ refusal. ap (λ (kept : Machine). refused kept (Err refusal)) (same-parts machine thread place))
      (λ fails. rw (
        free_grows (lock_of machine place) (omega (arith, count_bound machine counted place)),
        raise_grows (clock_of machine thread) thread (omega (arith, clock_bound machine counted thread thread)),
      ))

  pub prune-step : {given : ℕ} → Accepts PRUNE thread 0 0 given
      → put_pruned machine thread place (prune_on (log_of machine thread) machine.cache machine.locks) ≡ step_of machine 10 thread 0 0
  unfolding kind_of prune_on state_tests effect prune_effect
  prune-step is_accepted =
      let log = log_of machine thread in
      let last = live_event log (oldest_region log - 1) in
      by_part
      machine
      thread
      0
      0
      10
      PRUNE
      refl
      is_accepted
      (λ answer. record { answer = answer; log = log; locks = machine.locks })
      (record { answer = Ok (oldest_region log); log = drop_of log (oldest_region log); locks = counted_locks machine.locks last })
      (put_pruned machine thread place)
      (λ refusal. ap (λ (kept : Machine). refused kept (Err refusal)) (same-log machine thread))
      (λ fails. rw (counted-grows machine.locks last (omega (arith, pruned_bound machine counted (place_of last)))))

-- kinds that the state never refuses
module _ (machine : Machine) (thread place : ℕ) where
  pub flush-step : {given : ℕ} → Accepts FLUSH thread place 0 given → effect machine FLUSH thread place 0 ≡ step_of machine 7 thread place 0
  unfolding kind_of state_tests
  flush-step is_accepted = plain machine thread place 0 7 FLUSH refl is_accepted refl

  pub flush-log-step : {given : ℕ} → Accepts FLUSHLOG thread 0 0 given → effect machine FLUSHLOG thread 0 0 ≡ step_of machine 8 thread 0 0
  unfolding kind_of state_tests
  flush-log-step is_accepted = plain machine thread 0 0 8 FLUSHLOG refl is_accepted refl

  pub fence-step : {given : ℕ} → Accepts FENCE thread 0 0 given → effect machine FENCE thread 0 0 ≡ step_of machine 9 thread 0 0
  unfolding kind_of state_tests
  fence-step is_accepted = plain machine thread 0 0 9 FENCE refl is_accepted refl

  pub evict-cell-step : {given : ℕ} → Accepts EVICTCELL 0 place 0 given → effect machine EVICTCELL 0 place 0 ≡ step_of machine 13 0 place 0
  unfolding kind_of state_tests
  evict-cell-step is_accepted = plain machine 0 place 0 13 EVICTCELL refl is_accepted refl
