-- The machines that a list of steps may begin at: any cells, four idle logs, nothing held and nothing accessed. The start call's is one.
use Rattle.std.specs.Prelude.{None}
use Prim.Native.Nat.{ℕ, ◌*◌, ◌<◌}
use native.Mathlib.Decide.{dec_lt, ℕ_discrete}
use native.Mathlib.Omega.{arith}
use mathlib.Core.Path.{◌≡◌, refl, sym, subst}
use mathlib.Core.List.{List}
use mathlib.Core.Logic.{by_cases}
use lib.ListN.{length, get_or, replicate, get_or-replicate, get_or-eq_default}
use borrow.Author.Tests.{eq-eqb, ne_eqb}
use Rattle.sizes.specs.Sizes.{thread_count, lock_count}
use Rattle.answer.proofs.ListLaws.{get_d-blank}
use Rattle.cache.specs.Cache.{cell_count, cache_of}
use Rattle.thread_log.specs.Entries.{fresh_log}
use Rattle.thread_log.specs.declared.Log.{Log}
use Rattle.thread_log.proofs.Idle.{Idle, fresh_idle}
use Rattle.machine.specs.Holds.{no_log, lock_of, fresh_machine, start_of}
use Rattle.locks.specs.Locks.{no_lock}
use Rattle.clocks.specs.Clocks.{no_clock, start_clocks}
use Rattle.machine.specs.State.{Machine}

-- the machine with these cells and logs
abbrev pub machine_with : List ℕ → List Log → Machine
machine_with cells logs = record {
  cache = cache_of cells;
  logs = logs;
  clocks = start_clocks;
  lock_clocks = replicate lock_count no_clock;
  locks = replicate lock_count no_lock;
  accesses = record {
    stamps = replicate (cell_count * thread_count) 0;
    logged = replicate cell_count 0;
    loggers = replicate cell_count 0;
  };
}

-- a log for each thread, all of them idle
pub record AllIdle (logs : List Log) : Type 0 where
  pub for_threads : length logs ≡ thread_count
  pub idle : (thread : ℕ) → thread < thread_count → Idle (get_or logs thread no_log)

module _ (logs : List Log) (all : AllIdle logs) where
  -- what holds of every idle log, and of what stands past the last thread, holds at every number
  pub each-log : (P : Log → Type 0) → ((log : Log) → Idle log → P log) → P no_log → (thread : ℕ) → P (get_or logs thread no_log)
  each-log P within beyond thread =
      by_cases
      (dec_lt thread thread_count)
      (λ in_range. within (get_or logs thread no_log) (all.idle thread in_range))
      (λ over. subst P (sym (get_or-eq_default logs no_log {n = thread} (omega (arith, over, all.for_threads)))) beyond)

  pub releases-nothing : (thread : ℕ) → (get_or logs thread no_log).tail.releasing ≡ None
  releases-nothing = each-log (λ log. log.tail.releasing ≡ None) (λ log is. is.releases_nothing) refl

  pub lock-free : (cells : List ℕ) (lock : ℕ) → lock_of (machine_with cells logs) lock ≡ no_lock
  lock-free cells lock = get_d-blank lock_count lock no_lock

-- the start call's logs
abbrev pub fresh_logs : List Log
fresh_logs = replicate thread_count fresh_log

pub fresh-all : AllIdle fresh_logs
fresh-all = record {
  for_threads = refl;
  idle = λ thread in_range. rw (get_or-replicate thread_count thread fresh_log no_log in_range) fresh_idle;
}

-- what holds of the machine with any 128 cells and fresh logs holds of the start call's, whether 21 refuses its words or not
pub on-start : (P : Machine → Type 0) → ((cells : List ℕ) → length cells ≡ cell_count → P (machine_with cells fresh_logs)) → (words : List ℕ)
    → P (start_of words).machine
unfolding start_of fresh_machine
on-start P begins words =
    by_cases
    (ℕ_discrete (length words) cell_count)
    (λ is. rw (eq-eqb (length words) cell_count is) (begins words is))
    (λ is_not. rw (ne_eqb (length words) cell_count is_not) (begins (replicate cell_count 0) refl))
