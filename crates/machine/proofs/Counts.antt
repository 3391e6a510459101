-- Lock counts and clocks are bounded by the entries made, since each RELEASE step uses up a RELEASE entry, and prunings by how far the
-- heads moved. So no count of a lock passes 4,000,000, and no number of a clock 1,000,001.
use Rattle.std.specs.Prelude.{Some}
use Prim.Native.Nat.{ℕ, zero, suc, ◌+◌, ◌-◌, ◌≤◌, ◌<◌, ◌*◌}
use native.Mathlib.Decide.{dec_lt, ℕ_discrete}
use native.Mathlib.Omega.{arith}
use mathlib.Core.Path.{◌≡◌, refl}
use mathlib.Core.Bool.{Bool, true, false, cond}
use mathlib.Core.List.{List, [], ◌∷◌}
use mathlib.Core.Logic.{by_cases}
use lib.ListN.{length, get_or, set, get_or-eq_default}
use Rattle.sizes.specs.Sizes.{thread_count, lock_count}
use Rattle.answer.proofs.ListLaws.{get_d-blank}
use Rattle.answer.proofs.ListCases.{set_cases}
use Rattle.answer.proofs.RefusalLaws.{AllFail}
use Rattle.undo.specs.Entering.{live_event, enter_of, end_release_of}
use Rattle.cache.specs.Cache.{cached_at}
use Rattle.thread_log.specs.Entries.{append_tests, flush_log_of, fence_log_of, evict_words_of, drop_of, append_of}
use Rattle.undo.specs.Regions.{oldest_region, is_finished}
use Rattle.tail.specs.Tail.{is_releasing, flushed_tail, fenced_tail, released_tail}
use Rattle.append.specs.Append.{grown_tail}
use Rattle.event.specs.declared.Event.{Event}
use Rattle.event.specs.declared.Event.TheVariants.{Empty, Store, Acquire, Release}
use Rattle.thread_log.specs.declared.Log.{Log}
use native.Mathlib.Nat.{suc-mul}
use Rattle.thread_log.proofs.LogInvariant.{append_room}
use Rattle.region.proofs.OldestLaws.{region-live, finished_some}
use Rattle.clocks.specs.Clocks.{clock_at, join_of, raised_of, no_clock, start_clocks}
use Rattle.accesses.specs.Accesses.{loaded_of, logged_cell_of}
use Rattle.machine.specs.Effects.{load_effect, first_log_effect, store_effect, acquire_effect, log_release_effect, release_effect}
use Rattle.machine.specs.Effects.{flush_effect, flush_log_effect, fence_effect, prune_effect, evict_log_effect, effect}
use Rattle.machine.specs.Effects.{evict_cell_effect, evict_words_effect}
use Rattle.locks.specs.Locks.{pruned_locks, no_lock}
use Rattle.machine.specs.Holds.{no_log, log_of, lock_of, clock_of, lock_clock_of, start_of}
use Rattle.kinds.specs.declared.Kind.{Kind}
use Rattle.kinds.specs.declared.Kind.TheVariants.{Load as LOAD, Log as LOG, Store as STORE, Acquire as ACQUIRE, LogRel as LOGREL}
use Rattle.kinds.specs.declared.Kind.TheVariants.{Release as RELEASE, Flush as FLUSH, FlushLog as FLUSHLOG, Fence as FENCE}
use Rattle.kinds.specs.declared.Kind.TheVariants.{Prune as PRUNE, EvictLog as EVICTLOG, EvictCell as EVICTCELL, EvictWords as EVICTWORDS}
use Rattle.machine.specs.Runs.{Step, after, Reached}
use Rattle.clocks.specs.declared.Clock.{Clock}
use Rattle.locks.specs.declared.Lock.{Lock as LockState}
use Rattle.machine.specs.State.{Machine}
use Rattle.machine.proofs.AcceptedMeans.{log_asked, first_log_asked, acquire_asked, log_release_asked, release_asked}
use Rattle.machine.proofs.AcceptedMeans.{flush_log_asked, fence_asked, prune_asked, evict_log_asked, evict_words-asked}
use Rattle.machine.proofs.LogCases.{log_cases}
use Rattle.machine.proofs.Beginnings.{machine_with, AllIdle, each-log, releases-nothing, lock-free, fresh_logs, fresh-all, on-start}
use Rattle.clocks.proofs.ClockLaws.{clock_at-join, clock_at-raised-other, clock_at-raised-own, clock_at-none, start-raised}
use Rattle.machine.proofs.Sizes.{Sized, effect-sized, begin_sized}
use Rattle.machine.proofs.StepLaws.{tests_of, after-keeps}

-- the sum of a number of each element of a list
pub sum_by : {A : Type 0} → (A → ℕ) → List A → ℕ
sum_by number [] = 0
sum_by number (first ∷ list) = number first + sum_by number list

-- one element changed: the old one's number goes, the new one's comes
pub sum_set : {A : Type 0} (number : A → ℕ) (list : List A) (place : ℕ) (value default : A) → place < length list
    → sum_by number (set list place value) + number (get_or list place default) ≡ sum_by number list + number value
unfolding sum_by
sum_set number [] place value default in_range = absurd (omega arith)
sum_set number (first ∷ list) zero value default in_range = omega arith
sum_set number (first ∷ list) (suc place) value default in_range =
    let rest = sum_set number list place value default (omega arith) in
    omega arith

-- numbers that are all bounded have a bounded sum
pub sum_bound : {A : Type 0} (number : A → ℕ) (list : List A) (bound : ℕ) (default : A)
    → ((place : ℕ) → place < length list → number (get_or list place default) ≤ bound) → sum_by number list ≤ length list * bound
unfolding sum_by
sum_bound number [] bound default each = omega arith
sum_bound number (first ∷ list) bound default each =
    let here : number first ≤ bound = each 0 (omega arith) in
    let rest = sum_bound number list bound default (λ place in_range. each (suc place) (omega arith)) in
    rw (suc-mul (length list) bound) (omega arith)

-- a list of numbers, each of which is at least 1, is no longer than their sum
pub sum-least : {A : Type 0} (number : A → ℕ) (list : List A) (default : A)
    → ((place : ℕ) → place < length list → 1 ≤ number (get_or list place default)) → length list ≤ sum_by number list
unfolding sum_by
sum-least number [] default each = omega arith
sum-least number (first ∷ list) default each =
    let here : 1 ≤ number first = each 0 (omega arith) in
    let rest = sum-least number list default (λ place in_range. each (suc place) (omega arith)) in
    omega arith

-- the next LSN, the oldest live one, and 1 for a thread that is releasing
abbrev pub next_of : Log → ℕ
next_of log = log.tail.next.0

abbrev pub head_of : Log → ℕ
head_of log = log.head.0

abbrev pub closing_of : Log → ℕ
closing_of log = cond (is_releasing log.tail.releasing) 1 0

-- a clock's number of each thread is at most the thread's next LSN, and less while the thread is releasing
abbrev pub Within : List Log → Clock → Type 0
Within logs clock = (thread : ℕ) → clock_at clock thread + closing_of (get_or logs thread no_log) ≤ next_of (get_or logs thread no_log)

-- LSNs are bounded, a lock's count and the threads that are releasing by the entries made, its prunings by the heads, and clocks by LSNs
pub record Counted (machine : Machine) : Type 0 where
  pub sized : Sized machine
  pub next_bound : (thread : ℕ) → next_of (log_of machine thread) ≤ 1000001
  pub head_bound : (thread : ℕ) → head_of (log_of machine thread) ≤ next_of (log_of machine thread)
  pub counts : (lock : ℕ) → (lock_of machine lock).count.0 + (sum_by closing_of machine.logs + thread_count) ≤ sum_by next_of machine.logs
  pub prunings : (lock : ℕ) → (lock_of machine lock).pruned.0 + thread_count ≤ sum_by head_of machine.logs
  pub clocks : (thread : ℕ) → Within machine.logs (clock_of machine thread)
  pub lock_clocks : (lock : ℕ) → Within machine.logs (lock_clock_of machine lock)

-- no lock count passes 4,000,000
pub count_bound : (machine : Machine) → Counted machine → (lock : ℕ) → (lock_of machine lock).count.0 ≤ 4000000
count_bound machine counted lock =
    let most = sum_bound next_of machine.logs 1000001 no_log (λ thread in_range. counted.next_bound thread) in
    let four = counted.sized.logs in
    let total : sum_by next_of machine.logs ≤ thread_count * 1000001 = rw four at most in
    let bound = counted.counts lock in
    omega arith

-- no more than 4,000,000 regions that end in a RELEASE of a lock are pruned
pub pruned_bound : (machine : Machine) → Counted machine → (lock : ℕ) → (lock_of machine lock).pruned.0 ≤ 4000000
pruned_bound machine counted lock =
    let most =
    sum_bound head_of machine.logs 1000001 no_log
    (λ thread in_range. omega (arith, counted.head_bound thread, counted.next_bound thread)) in
    let four = counted.sized.logs in
    let total : sum_by head_of machine.logs ≤ thread_count * 1000001 = rw four at most in
    let bound = counted.prunings lock in
    omega arith

-- no number of a thread's clock passes the last of the next LSNs
pub clock_bound : (machine : Machine) → Counted machine → (thread other : ℕ) → clock_at (clock_of machine thread) other ≤ 1000001
clock_bound machine counted thread other = omega (arith, counted.clocks thread other, counted.next_bound other)

-- what a log that changes gains in entries pays for what is released, and its head for what is pruned
record Pays (old new : Log) (released pruned : ℕ) : Type 0 where
  bound : next_of new ≤ 1000001
  live : head_of new ≤ next_of new
  entries : next_of old + closing_of new + released ≤ next_of new + closing_of old
  heads : head_of old + pruned ≤ head_of new

-- how much a lock's counts grow
record Raised (old new : LockState) (released pruned : ℕ) : Type 0 where
  counts : new.count.0 ≤ old.count.0 + released
  prunings : new.pruned.0 ≤ old.pruned.0 + pruned

-- a lock that stays raises nothing
stays : (lock : LockState) → Raised lock lock 0 0
stays lock = omega arith

-- clocks are within bounds that grow
within_log : (logs : List Log) (thread : ℕ) (log : Log) → thread < length logs
    → next_of (get_or logs thread no_log) + closing_of log ≤ next_of log + closing_of (get_or logs thread no_log) → (clock : Clock)
    → Within logs clock → Within (set logs thread log) clock
within_log logs thread log in_range grows clock within =
    set_cases logs thread log no_log in_range (λ other state. clock_at clock other + closing_of state ≤ next_of state)
    (omega (arith, within thread)) (λ other differs. within other)

-- what a join knows, one of the two knows
within-join : (logs : List Log) (one other : Clock) → Within logs one → Within logs other → Within logs (join_of one other)
within-join logs one other first second thread = rw (clock_at-join one other thread) (omega (arith, first thread, second thread))

-- a RELEASE step raises the clock of the thread that ends releasing
within-raised : (logs : List Log) (thread : ℕ) (log : Log) → thread < thread_count → thread < length logs
    → next_of (get_or logs thread no_log) + closing_of log + 1 ≤ next_of log + closing_of (get_or logs thread no_log) → (clock : Clock)
    → Within logs clock → Within (set logs thread log) (raised_of clock thread)
within-raised logs thread log in_threads in_range grows clock within =
    set_cases
    logs
    thread
    log
    no_log
    in_range
    (λ other state. clock_at (raised_of clock thread) other + closing_of state ≤ next_of state)
    (rw (clock_at-raised-own clock thread in_threads) (omega (arith, within thread)))
    (λ other differs. rw (clock_at-raised-other clock thread other differs) (within other))

module _ (machine next : Machine) (counted : Counted machine) (sized : Sized next) where
  -- where nothing of the logs, locks and clocks changes, the machine stays within the bounds
  counted_same : next.logs ≡ machine.logs → next.locks ≡ machine.locks → next.clocks ≡ machine.clocks
      → next.lock_clocks ≡ machine.lock_clocks → Counted next
  counted_same same_logs same_locks same_clocks same_lock_clocks = record {
    sized = sized;
    next_bound = λ thread. rw same_logs (counted.next_bound thread);
    head_bound = λ thread. rw same_logs (counted.head_bound thread);
    counts = λ lock. rw (same_logs, same_locks) (counted.counts lock);
    prunings = λ lock. rw (same_logs, same_locks) (counted.prunings lock);
    clocks = λ thread other. rw (same_logs, same_clocks) (counted.clocks thread other);
    lock_clocks = λ lock other. rw (same_logs, same_lock_clocks) (counted.lock_clocks lock other);
  }

  module _ (thread : ℕ) (log : Log) (released pruned : ℕ) (in_range : thread < thread_count)
      (pays : Pays (log_of machine thread) log released pruned)
      (raised : (lock : ℕ) → Raised (lock_of machine lock) (lock_of next lock) released pruned) where
    in_logs : thread < length machine.logs
    in_logs = rw counted.sized.logs in_range

    -- where one log changes, and what it gains pays for the locks, the machine stays within the bounds
    counted-change : next.logs ≡ set machine.logs thread log
        → ((owner : ℕ) → Within (set machine.logs thread log) (clock_of next owner))
        → ((lock : ℕ) → Within (set machine.logs thread log) (lock_clock_of next lock)) → Counted next
    counted-change is_set clocks lock_clocks =
        let nexts = sum_set next_of machine.logs thread log no_log in_logs in
        let closings = sum_set closing_of machine.logs thread log no_log in_logs in
        let heads = sum_set head_of machine.logs thread log no_log in_logs in
        record {
          sized = sized;
          next_bound =
              rw is_set (set_cases machine.logs thread log no_log in_logs (λ other state. next_of state ≤ 1000001)
              pays.bound (λ other differs. counted.next_bound other));
          head_bound =
              rw is_set (set_cases machine.logs thread log no_log in_logs (λ other state. head_of state ≤ next_of state)
              pays.live (λ other differs. counted.head_bound other));
          counts = λ lock. rw is_set (omega (arith, counted.counts lock, (raised lock).counts));
          prunings = λ lock. rw is_set (omega (arith, counted.prunings lock, (raised lock).prunings));
          clocks = rw is_set clocks;
          lock_clocks = rw is_set lock_clocks;
        }

    -- where one log changes, and no clock, the machine stays within the bounds
    counted-log : next.logs ≡ set machine.logs thread log → next.clocks ≡ machine.clocks
        → next.lock_clocks ≡ machine.lock_clocks → Counted next
    counted-log is_set same_clocks same_lock_clocks =
        let grows = within_log machine.logs thread log in_logs (omega arith) in
        counted-change is_set (λ owner. rw same_clocks (grows (clock_of machine owner) (counted.clocks owner)))
        (λ lock. rw same_lock_clocks (grows (lock_clock_of machine lock) (counted.lock_clocks lock)))

closing-most : (log : Log) → closing_of log ≤ 1
closing-most log = by_flag (is_releasing log.tail.releasing)
  where
    by_flag : (flag : Bool) → cond flag 1 0 ≤ 1
    by_flag true = omega arith
    by_flag false = omega arith

-- an append makes an entry more, which may be a RELEASE
append_pays : (log : Log) (event : Event) → AllFail (append_tests log) → head_of log ≤ next_of log → Pays log (enter_of log event) 0 0
unfolding append_of grown_tail
append_pays log event fails live = omega (arith, (append_room log fails).0, closing-most (enter_of log event))

-- a RELEASE step uses up what the thread has been releasing
ends_pays : (log : Log) (lock : ℕ) → log.tail.releasing ≡ Some lock → next_of log ≤ 1000001 → head_of log ≤ next_of log
    → Pays log (end_release_of log) 1 0
unfolding end_release_of released_tail
ends_pays log lock releases bound live = let closing : closing_of log ≡ 1 = rw releases in omega arith

-- a head that moves past a finished region pays for one pruned region
prune_pays : (log : Log) → is_finished log ≡ true → next_of log ≤ 1000001 → head_of log ≤ next_of log
    → Pays log (drop_of log (oldest_region log)) 0 1
unfolding drop_of
prune_pays log finished bound live = omega (arith, finished_some log finished, region-live log)

-- a lock that is changed: its counts, and the others' as they were
changed_lock : (locks : List LockState) (place : ℕ) (state : LockState) (released pruned : ℕ)
    → Raised (get_or locks place no_lock) state released pruned → (lock : ℕ)
    → Raised (get_or locks lock no_lock) (get_or (set locks place state) lock no_lock) released pruned
changed_lock [] place state released pruned self lock = omega arith
changed_lock (first ∷ locks) zero state released pruned self zero = self
changed_lock (first ∷ locks) zero state released pruned self (suc lock) = omega arith
changed_lock (first ∷ locks) (suc place) state released pruned self zero = omega arith
changed_lock (first ∷ locks) (suc place) state released pruned self (suc lock) = changed_lock locks place state released pruned self lock

pruned-locks : (locks : List LockState) (last : Event) (lock : ℕ)
    → Raised (get_or locks lock no_lock) (get_or (pruned_locks locks last) lock no_lock) 0 1
pruned-locks locks Empty lock = omega arith
pruned-locks locks (Store cell old) lock = omega arith
pruned-locks locks (Acquire held count) lock = omega arith
pruned-locks locks (Release held count) lock = changed_lock locks held _ 0 1 (omega arith) lock

pub effect-counted : (machine : Machine) → Counted machine → (kind : Kind) (thread place value : ℕ)
    → AllFail (tests_of machine kind thread place value) → Counted (effect machine kind thread place value).machine
unfolding effect load_effect first_log_effect store_effect acquire_effect log_release_effect release_effect flush_effect
    flush_log_effect fence_effect prune_effect evict_log_effect evict_cell_effect evict_words_effect loaded_of logged_cell_of
    flush_log_of flushed_tail end_release_of released_tail fence_log_of fenced_tail evict_words_of
effect-counted machine counted LOAD thread place value fails =
    counted_same machine _ counted (effect-sized machine counted.sized LOAD thread place value fails) refl refl refl refl
effect-counted machine counted LOG thread place value fails =
    log_cases
    (λ stepped. Sized stepped.machine → Counted stepped.machine)
    machine
    thread
    place
    (λ is_nowhere sized.
    let room = (first_log_asked machine thread place value fails is_nowhere).room in
    counted-log machine _ counted sized thread _ 0 0
    (log_asked machine thread place value fails).in_thread
    (append_pays (log_of machine thread) (Store place (cached_at machine.cache place)) room (counted.head_bound thread))
    (λ lock. stays (lock_of machine lock)) refl refl refl)
    (λ number is_at sized. counted)
    (effect-sized machine counted.sized LOG thread place value fails)
effect-counted machine counted STORE thread place value fails =
    counted_same machine _ counted (effect-sized machine counted.sized STORE thread place value fails) refl refl refl refl
effect-counted machine counted ACQUIRE thread place value fails =
    let asked = acquire_asked machine thread place value fails in
    let in_logs : thread < length machine.logs = rw counted.sized.logs asked.in_thread in
    let in_clocks : thread < length machine.clocks = rw counted.sized.clocks asked.in_thread in
    let event = Acquire place (lock_of machine place).count in
    let pays = append_pays (log_of machine thread) event asked.room (counted.head_bound thread) in
    let grows = within_log machine.logs thread (enter_of (log_of machine thread) event) in_logs (omega arith) in
    counted-change
    machine
    _
    counted
    (effect-sized machine counted.sized ACQUIRE thread place value fails)
    thread
    _
    0
    0
    asked.in_thread
    pays
    (changed_lock machine.locks place _ 0 0 (omega arith))
    refl
    (set_cases
    machine.clocks
    thread
    _
    no_clock
    in_clocks
    (λ owner clock. Within (set machine.logs thread (enter_of (log_of machine thread) event)) clock)
    (grows _ (within-join machine.logs (clock_of machine thread) (lock_clock_of machine place) (counted.clocks thread)
    (counted.lock_clocks place)))
    (λ owner differs. grows (clock_of machine owner) (counted.clocks owner)))
    (λ lock. grows (lock_clock_of machine lock) (counted.lock_clocks lock))
effect-counted machine counted LOGREL thread place value fails =
    let asked = log_release_asked machine thread place value fails in
    counted-log machine _ counted (effect-sized machine counted.sized LOGREL thread place value fails) thread _ 0 0
    asked.in_thread
    (append_pays (log_of machine thread) (Release place (lock_of machine place).count) asked.room (counted.head_bound thread))
    (λ lock. stays (lock_of machine lock)) refl refl refl
effect-counted machine counted RELEASE thread place value fails =
    let asked = release_asked machine thread place value fails in
    let in_logs : thread < length machine.logs = rw counted.sized.logs asked.in_thread in
    let in_clocks : thread < length machine.clocks = rw counted.sized.clocks asked.in_thread in
    let in_locks : place < length machine.lock_clocks = rw counted.sized.lock_clocks asked.in_lock in
    let clock = clock_of machine thread in
    let ended = end_release_of (log_of machine thread) in
    let pays : Pays (log_of machine thread) ended 1 0 =
    ends_pays (log_of machine thread) place asked.is_releasing_it (counted.next_bound thread) (counted.head_bound thread) in
    let grows = within_log machine.logs thread ended in_logs (omega arith) in
    counted-change
    machine
    _
    counted
    (effect-sized machine counted.sized RELEASE thread place value fails)
    thread
    ended
    1
    0
    asked.in_thread
    pays
    (changed_lock machine.locks place _ 1 0 (omega arith))
    refl
    (set_cases
    machine.clocks
    thread
    _
    no_clock
    in_clocks
    (λ owner state. Within (set machine.logs thread ended) state)
    (within-raised machine.logs thread ended asked.in_thread in_logs (omega arith) clock (counted.clocks thread))
    (λ owner differs. grows (clock_of machine owner) (counted.clocks owner)))
    (set_cases
    machine.lock_clocks
    place
    clock
    no_clock
    in_locks
    (λ lock state. Within (set machine.logs thread ended) state)
    (grows clock (counted.clocks thread))
    (λ lock differs. grows (lock_clock_of machine lock) (counted.lock_clocks lock)))
effect-counted machine counted FLUSH thread place value fails =
    counted_same machine _ counted (effect-sized machine counted.sized FLUSH thread place value fails) refl refl refl refl
effect-counted machine counted FLUSHLOG thread place value fails =
    counted-log machine _ counted (effect-sized machine counted.sized FLUSHLOG thread place value fails) thread _ 0 0
    (flush_log_asked machine thread place value fails)
    (omega (arith, counted.next_bound thread, counted.head_bound thread)) (λ lock. stays (lock_of machine lock)) refl
    refl refl
effect-counted machine counted FENCE thread place value fails =
    counted-log machine _ counted (effect-sized machine counted.sized FENCE thread place value fails) thread _ 0 0
    (fence_asked machine thread place value fails)
    (omega (arith, counted.next_bound thread, counted.head_bound thread)) (λ lock. stays (lock_of machine lock)) refl
    refl refl
effect-counted machine counted PRUNE thread place value fails =
    let asked = prune_asked machine thread place value fails in
    let log = log_of machine thread in
    counted-log machine _ counted (effect-sized machine counted.sized PRUNE thread place value fails) thread _ 0 1
    asked.in_thread
    (prune_pays log asked.is_finished_region (counted.next_bound thread) (counted.head_bound thread))
    (pruned-locks machine.locks (live_event log (oldest_region log - 1))) refl refl refl
effect-counted machine counted EVICTLOG thread place value fails =
    counted-log machine _ counted (effect-sized machine counted.sized EVICTLOG thread place value fails) thread _ 0 0
    (evict_log_asked machine thread place value fails).in_thread
    (omega (arith, counted.next_bound thread, counted.head_bound thread)) (λ lock. stays (lock_of machine lock)) refl
    refl refl
effect-counted machine counted EVICTCELL thread place value fails =
    counted_same machine _ counted (effect-sized machine counted.sized EVICTCELL thread place value fails) refl refl refl refl
effect-counted machine counted EVICTWORDS thread place value fails =
    counted-log machine _ counted (effect-sized machine counted.sized EVICTWORDS thread place value fails) thread _ 0 0
    (evict_words-asked machine thread place value fails).in_thread
    (omega (arith, counted.next_bound thread, counted.head_bound thread)) (λ lock. stays (lock_of machine lock)) refl
    refl refl

-- at a beginning the counts are 0, and each clock knows of no step, but that a thread's own number is 1
module _ (cells : List ℕ) (logs : List Log) (all : AllIdle logs) where
  closing-none : (thread : ℕ) → closing_of (get_or logs thread no_log) ≡ 0
  closing-none thread = rw (releases-nothing logs all thread)

  begin-within : (owner : ℕ) → Within logs (get_or start_clocks owner no_clock)
  begin-within owner =
      by_cases
      (dec_lt owner thread_count)
      (λ in_range. rw (start-raised owner in_range) (within-own in_range))
      (λ over. let past : thread_count ≤ owner = omega arith in rw (get_or-eq_default start_clocks no_clock {n = owner} past) none_within)
    where
      none_within : Within logs no_clock
      none_within thread = rw (clock_at-none thread, closing-none thread) (omega arith)

      within-own : owner < thread_count → Within logs (raised_of no_clock owner)
      within-own in_range thread =
          by_cases
          (ℕ_discrete thread owner)
          (λ same. rw (same, clock_at-raised-own no_clock owner in_range, clock_at-none owner, closing-none owner)
          (omega (arith, (all.idle owner in_range).head_least, (all.idle owner in_range).next_is)))
          (λ differs. rw (clock_at-raised-other no_clock owner thread differs) (none_within thread))

  pub begin-counted : Counted (machine_with cells logs)
  begin-counted =
      let four = all.for_threads in
      let none = sum_bound closing_of logs 0 no_log (λ thread in_range. omega (arith, closing-none thread)) in
      let heads = sum-least head_of logs no_log (λ thread in_range. (all.idle thread (omega arith)).head_least) in
      let nexts =
      sum-least next_of logs no_log (λ thread in_range. let is = all.idle thread (omega arith) in omega (arith, is.head_least, is.next_is)) in
      record {
        sized = begin_sized cells logs all;
        next_bound = each-log logs all (λ log. next_of log ≤ 1000001) (λ log is. omega (arith, is.next_is, is.head_most)) (omega arith);
        head_bound = each-log logs all (λ log. head_of log ≤ next_of log) (λ log is. omega (arith, is.next_is)) (omega arith);
        counts = λ lock. rw (lock-free logs all cells lock) (omega arith);
        prunings = λ lock. rw (lock-free logs all cells lock) (omega arith);
        clocks = begin-within;
        lock_clocks = λ lock. rw (get_d-blank lock_count lock no_clock) (begin-within thread_count);
      }

pub start-counted : (words : List ℕ) → Counted (start_of words).machine
start-counted words = on-start Counted (λ cells is_length. begin-counted cells fresh_logs fresh-all) words

-- every machine that the start call and steps lead to is within the bounds
pub after-counted : (words : List ℕ) (steps : List Step) → Counted (after (start_of words).machine steps)
after-counted words steps = after-keeps Counted effect-counted (start_of words).machine (start-counted words) steps

-- every machine that a step may be taken on is within the bounds
pub reached-counted : (machine : Machine) → Reached machine → Counted machine
reached-counted machine reached = rw reached.leads (after-counted reached.words reached.steps)
