-- The log's sum holds: each step changes the number of live entries by those that it appends and those that it frees.
use Rattle.std.specs.Prelude.{Option}
use Prim.Native.Nat.{ℕ, zero, suc, ◌+◌, ◌<◌, ◌≤◌}
use mathlib.Core.Path.{◌≡◌, refl, sym, ap, subst}
use mathlib.Core.Bool.{false, cond, not, ◌&&◌, ◌||◌}
use mathlib.Core.List.{List, [], ◌∷◌, map}
use native.Mathlib.Omega.{arith}
use lib.Dec.{eqb}
use lib.ListN.{length, get_or, set}
use Rattle.sizes.specs.Sizes.{thread_count, entry_words}
use Rattle.answer.specs.Answer.{is_accepted, value_of}
use Rattle.answer.specs.Answer.{Answer}
use Rattle.answer.proofs.ListLaws.{cond_same}
use Rattle.answer.proofs.RefusalLaws.{AllFail}
use Rattle.cache.specs.Cache.{cached_at}
use Rattle.ring.specs.declared.Lsn.{Lsn}
use Rattle.thread_log.specs.Entries.{live_count, flush_log_of, fence_log_of, evict_words_of, drop_of, append_of}
use Rattle.undo.specs.Entering.{enter_of, end_release_of}
use Rattle.event.specs.declared.Event.TheVariants.{Store, Acquire, Release}
use Rattle.undo.specs.Regions.{oldest_region, is_found}
use Rattle.tail.specs.Tail.{flushed_tail, fenced_tail, released_tail}
use Rattle.append.specs.Append.{grown_tail}
use Rattle.thread_log.specs.declared.Log.{Log}
use Rattle.region.proofs.OldestLaws.{region-live}
use Rattle.machine.specs.Effects.{load_effect, first_log_effect, store_effect, acquire_effect, log_release_effect, release_effect, flush_effect}
use Rattle.machine.specs.Effects.{flush_log_effect, fence_effect, prune_effect, evict_log_effect, evict_cell_effect, effect}
use Rattle.machine.specs.Effects.{evict_words_effect}
use Rattle.kinds.specs.declared.Kind.{Kind}
use Rattle.kinds.specs.declared.Kind.TheVariants.{Load as LOAD, Log as LOG, Store as STORE, Acquire as ACQUIRE, LogRel as LOGREL}
use Rattle.kinds.specs.declared.Kind.TheVariants.{Release as RELEASE, Flush as FLUSH, FlushLog as FLUSHLOG, Fence as FENCE, Prune as PRUNE}
use Rattle.kinds.specs.declared.Kind.TheVariants.{EvictLog as EVICTLOG, EvictCell as EVICTCELL, EvictWords as EVICTWORDS}
use Rattle.machine.specs.Holds.{no_log, log_of, lock_of}
use Rattle.machine.specs.Runs.{Step, step_with, after}
use Rattle.machine.specs.State.{Machine}
use Rattle.machine.specs.declared.Stepped.{Stepped}
use Rattle.machine.proofs.Beginnings.{machine_with, AllIdle, each-log, fresh_logs, fresh-all, on-start}
use Rattle.machine.proofs.Sizes.{Sized, effect-sized, begin_sized}
use Rattle.machine.proofs.LogCases.{log_cases}
use Rattle.machine.proofs.StepLaws.{tests_of, step-cases}
use Rattle.laws.specs.LogSum.{sum, freed_by, appends, appended_by, live_in, LogSum}
use Rattle.atomicity.proofs.HistoryRuns.{kind_number, kind-number, thread-in-range}
use Rattle.answer.proofs.ListCases.{set_cases}
use Rattle.atomicity.proofs.PruneKeeps.{prune_logs}

-- one element changed: the old one's number goes, the new one's comes
sum_set : {A : Type 0} (number : A → ℕ) (list : List A) (place : ℕ) (value default : A) → place < length list →
    sum (map number (set list place value)) + number (get_or list place default) ≡ sum (map number list) + number value
unfolding sum
sum_set number [] place value default in_range = absurd (omega arith)
sum_set number (first ∷ list) zero value default in_range = omega arith
sum_set number (first ∷ list) (suc place) value default in_range =
    let rest = sum_set number list place value default (omega arith) in
    omega arith

-- numbers that are all 0 have the sum 0
sum-none : {A : Type 0} (number : A → ℕ) (list : List A) (default : A) →
    ((place : ℕ) → number (get_or list place default) ≡ 0) → sum (map number list) ≡ 0
unfolding sum
sum-none number [] default none = refl
sum-none number (first ∷ list) default none =
    omega (arith, none 0, sum-none number list default (λ place. none (suc place)))

-- no head is past the next LSN, so that a difference of the two counts the live entries
record Headed (machine : Machine) : Type 0 where
  sized : Sized machine
  head_next : (thread : ℕ) → (log_of machine thread).head.0 ≤ (log_of machine thread).tail.next.0

-- how many entries a step of this kind with this answer frees
abbrev freed : ℕ → Answer → ℕ
freed kind answer = cond (eqb kind 10) (value_of answer) 0

-- how many entries a step with this answer appends
abbrev appended : Machine → Step → Answer → ℕ
appended machine step answer = cond (is_accepted answer && appends machine step) 1 0

-- how many an accepted LOG appends, where the search for the cell's entry found this
abbrev log_appends : Option Lsn → ℕ
log_appends found = cond (not (is_found found) || false || false) 1 0

-- what a step leads to: what it freed and what is live now is what it appended and what was live
record Balanced (machine : Machine) (step : Step) (stepped : Stepped) : Type 0 where
  headed : Headed stepped.machine
  balance : freed step.kind stepped.answer + live_in stepped.machine ≡ appended machine step stepped.answer + live_in machine

module _ (machine : Machine) (headed : Headed machine) (step : Step) (stepped : Stepped) (sized : Sized stepped.machine) where
  -- a step that changes no log keeps the balance, if it frees as many entries as it appends
  balanced-same : stepped.machine.logs ≡ machine.logs →
      freed step.kind stepped.answer ≡ appended machine step stepped.answer → Balanced machine step stepped
  balanced-same same_logs same_count = record {
    headed = record { sized = sized; head_next = λ thread. rw same_logs (headed.head_next thread) };
    balance = rw (same_logs, same_count);
  }

  -- a step that changes one log keeps the balance, if it does so in that log
  balanced-log : (thread : ℕ) (log : Log) → thread < thread_count →
      stepped.machine.logs ≡ set machine.logs thread log → log.head.0 ≤ log.tail.next.0 →
      freed step.kind stepped.answer + live_count log ≡
      appended machine step stepped.answer + live_count (log_of machine thread) → Balanced machine step stepped
  balanced-log thread log in_range is_set head_next balance =
      let in_logs : thread < length machine.logs = rw headed.sized.logs in_range in
      record {
        headed = record {
          sized = sized;
          head_next =
              rw is_set (set_cases machine.logs thread log no_log in_logs
              (λ other log. log.head.0 ≤ log.tail.next.0) head_next (λ other differs. headed.head_next other));
        };
        balance = rw is_set (omega (arith, sum_set live_count machine.logs thread log no_log in_logs));
      }

-- every effect keeps the balance
effect_balanced : (machine : Machine) → Headed machine → (kind : Kind) (thread place value : ℕ) →
    AllFail (tests_of machine kind thread place value) →
    Balanced machine (record { kind = kind_number kind; thread = thread; place = place; value = value })
    (effect machine kind thread place value)
unfolding effect load_effect first_log_effect store_effect acquire_effect log_release_effect release_effect flush_effect
    flush_log_effect fence_effect prune_effect evict_log_effect evict_cell_effect evict_words_effect append_of grown_tail
    flush_log_of flushed_tail end_release_of released_tail fence_log_of fenced_tail evict_words_of drop_of
effect_balanced machine headed kind thread place value fails =
    by_kind
    kind
    (effect-sized machine headed.sized kind thread place value fails)
    (thread-in-range machine kind thread place value fails)
    (headed.head_next thread)
  where
    by_kind : (kind : Kind) → Sized (effect machine kind thread place value).machine → thread < thread_count →
        (log_of machine thread).head.0 ≤ (log_of machine thread).tail.next.0 →
        Balanced machine (record { kind = kind_number kind; thread = thread; place = place; value = value })
        (effect machine kind thread place value)
    by_kind LOAD sized in_range order = balanced-same machine headed _ _ sized refl refl
    by_kind LOG sized in_range order =
        log_cases
        (λ stepped. Sized stepped.machine →
        Balanced machine (record { kind = 2; thread = thread; place = place; value = value }) stepped)
        machine
        thread
        place
        (λ is_nowhere sized.
        balanced-log machine headed _ _ sized thread
        (enter_of (log_of machine thread) (Store place (cached_at machine.cache place))) in_range refl (omega arith)
        (omega (arith, ap log_appends is_nowhere)))
        (λ number is_at sized. balanced-same machine headed _ _ sized refl (sym (ap log_appends is_at)))
        sized
    by_kind STORE sized in_range order = balanced-same machine headed _ _ sized refl refl
    by_kind ACQUIRE sized in_range order =
        balanced-log machine headed _ _ sized thread
        (enter_of (log_of machine thread) (Acquire place (lock_of machine place).count)) in_range refl (omega arith)
        (omega arith)
    by_kind LOGREL sized in_range order =
        balanced-log machine headed _ _ sized thread
        (enter_of (log_of machine thread) (Release place (lock_of machine place).count)) in_range refl (omega arith)
        (omega arith)
    by_kind RELEASE sized in_range order =
        balanced-log machine headed _ _ sized thread (end_release_of (log_of machine thread)) in_range refl order refl
    by_kind FLUSH sized in_range order = balanced-same machine headed _ _ sized refl refl
    by_kind FLUSHLOG sized in_range order =
        balanced-log machine headed _ _ sized thread (flush_log_of (log_of machine thread)) in_range refl order refl
    by_kind FENCE sized in_range order =
        balanced-log machine headed _ _ sized thread (fence_log_of (log_of machine thread)) in_range refl order refl
    by_kind PRUNE sized in_range order =
        let log = log_of machine thread in
        let most = region-live log in
        balanced-log machine headed _ _ sized thread (drop_of log (oldest_region log)) in_range
        (prune_logs machine thread place value) (omega arith) (omega arith)
    by_kind EVICTLOG sized in_range order =
        balanced-log machine headed _ _ sized thread (evict_words_of (log_of machine thread) place entry_words) in_range refl order refl
    by_kind EVICTCELL sized in_range order = balanced-same machine headed _ _ sized refl refl
    by_kind EVICTWORDS sized in_range order =
        balanced-log machine headed _ _ sized thread (evict_words_of (log_of machine thread) place value) in_range refl order refl

-- every step keeps the balance: a refused one frees and appends nothing
step_balanced : (machine : Machine) → Headed machine → (step : Step) → Balanced machine step (step_with machine step)
step_balanced machine headed step =
    step-cases
    machine
    (Balanced machine step)
    (λ refusal. record { headed = headed; balance = rw (cond_same {A = ℕ} (eqb step.kind 10) 0) })
    step.kind
    step.thread
    step.place
    step.value
    (λ kind is_kind fails.
    subst
    (λ (number : ℕ).
    Balanced machine (record { kind = number; thread = step.thread; place = step.place; value = step.value })
    (effect machine kind step.thread step.place step.value))
    (sym (kind-number step.kind kind is_kind))
    (effect_balanced machine headed kind step.thread step.place step.value fails))

-- every list of steps keeps the balance
run_balanced : (machine : Machine) → Headed machine → (steps : List Step) →
    freed_by machine steps + live_in (after machine steps) ≡ appended_by machine steps + live_in machine
unfolding after freed_by appended_by
run_balanced machine headed [] = refl
run_balanced machine headed (step ∷ steps) =
    let now = step_balanced machine headed step in
    let later = run_balanced (step_with machine step).machine now.headed steps in
    omega arith

-- at a beginning no entry is live
begin_headed : (cells : List ℕ) (logs : List Log) → AllIdle logs → Headed (machine_with cells logs)
begin_headed cells logs all = record {
  sized = begin_sized cells logs all;
  head_next = each-log logs all (λ log. log.head.0 ≤ log.tail.next.0) (λ log is. omega (arith, is.next_is)) (omega arith);
}

begin_live : (cells : List ℕ) (logs : List Log) → AllIdle logs → live_in (machine_with cells logs) ≡ 0
begin_live cells logs all =
    let none = each-log logs all (λ log. live_count log ≡ 0) (λ log is. omega (arith, is.next_is)) refl in
    sum-none live_count logs no_log none

-- the log's sum holds from every beginning, and from the start call, whether that accepts its words or not
begin_sum : (cells : List ℕ) (logs : List Log) → AllIdle logs → (steps : List Step) →
    freed_by (machine_with cells logs) steps + live_in (after (machine_with cells logs) steps) ≡ appended_by (machine_with cells logs) steps
begin_sum cells logs all steps =
    omega (arith, run_balanced (machine_with cells logs) (begin_headed cells logs all) steps, begin_live cells logs all)

pub log_sum : LogSum
log_sum words steps =
    on-start
    (λ machine. freed_by machine steps + live_in (after machine steps) ≡ appended_by machine steps)
    (λ cells is_length. begin_sum cells fresh_logs fresh-all steps)
    words
