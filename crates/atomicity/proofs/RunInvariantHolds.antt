-- A machine that a list of steps begins at has all that the concerns ask, so every machine that steps lead to from it has. The start call's
-- is one of them: the one with the start cells.
use Rattle.std.specs.Prelude.{Some}
use Prim.Native.Nat.{ℕ, suc, ◌-◌, ◌≤◌}
use native.Mathlib.Decide.{ℕ_discrete}
use native.Mathlib.Omega.{arith}
use mathlib.Core.Path.{◌≡◌, refl, sym, ap, ◌∙◌}
use mathlib.Core.Bool.{false, false≢true}
use mathlib.Core.List.{List, []}
use mathlib.Core.Logic.{by_cases}
use lib.ListN.{length, replicate}
use borrow.Author.Tests.{eq-eqb, ne_eqb}
use Rattle.answer.specs.Lists.{count_below}
use Rattle.cache.specs.Cache.{cell_count}
use Rattle.cache.proofs.CacheLaws as CacheLaws
use Rattle.event.specs.Events.{payload_of}
use Rattle.event.specs.declared.Event.TheVariants.{Empty}
use Rattle.thread_log.specs.declared.Log.{Log}
use Rattle.thread_log.proofs.Idle.{idle_holds}
use Rattle.machine.specs.Holds.{lock_of, fresh_machine, start_of}
use Rattle.machine.specs.Runs.{Step, after}
use Rattle.locks.specs.declared.Lock.{Lock as LockState}
use Rattle.machine.specs.State.{Machine}
use Rattle.machine.proofs.Beginnings.{machine_with, AllIdle, each-log, releases-nothing, lock-free, fresh_logs, fresh-all}
use Rattle.machine.proofs.Sizes.{begin_sized}
use Rattle.atomicity.specs.History.{fed_book, history_of, start_machine, start_cells, machine_after, history_after}
use Rattle.atomicity.proofs.Logged.{Made}
use Rattle.atomicity.proofs.Cells.{unlogged}
use Rattle.atomicity.proofs.Locks.{never-both}
use Rattle.atomicity.proofs.HistoryRuns.{run-keeps}
use Rattle.atomicity.proofs.Places.{made_by}
use Rattle.atomicity.proofs.Regions.{regions_start}
use Rattle.atomicity.proofs.StepsFollow.{begin_follows}
use Rattle.atomicity.proofs.LogViews.{log_at}
use Rattle.atomicity.proofs.RunInvariant.{RunInvariant, run-refused, run-effect}
use Rattle.atomicity.proofs.MachineInvariant.{Beginning, Ghost, MachineInvariant, at-start, entries_of}
use Rattle.atomicity.proofs.Writes.{writes_start}

-- what a list of steps begins with: the cells, and all LSNs below the heads given
abbrev pub beginning_with : List ℕ → List Log → Beginning
beginning_with cells logs = record { cells = cells; before = λ thread. (log_at logs thread).head.0 - 1 }

-- before the first step nothing was said
nothing_said : Ghost
nothing_said = record { event = λ thread number. Empty; time = λ thread number. 0; made = λ place. false; versions = λ cell. [] }

module _ (cells : List ℕ) (logs : List Log) (is_length : length cells ≡ cell_count) (all : AllIdle logs) where
  abbrev machine : Machine
  machine = machine_with cells logs

  abbrev begin : Beginning
  begin = beginning_with cells logs

  next-most : (thread : ℕ) → (log_at logs thread).tail.next.0 ≤ suc ((log_at logs thread).head.0 - 1)
  next-most = each-log logs all (λ log. log.tail.next.0 ≤ suc (log.head.0 - 1)) (λ log is. omega (arith, is.next_is)) (omega arith)

  none_made : {A : Type 0} {thread number : ℕ} → Made (entries_of begin machine nothing_said) thread number → A
  none_made {A} {thread} made = let bound = next-most thread in let since = made.since in let below = made.below in absurd (omega arith)

  never-held : {A : Type 0} (lock : ℕ) {thread : ℕ} → (lock_of machine lock).holder ≡ Some thread → A
  never-held lock is_held = never-both (ap (λ (state : LockState). state.holder) (lock-free logs all cells lock)) is_held

  never-releases : {A : Type 0} (thread : ℕ) {lock : ℕ} → (log_at logs thread).tail.releasing ≡ Some lock → A
  never-releases thread is_releasing = never-both (releases-nothing logs all thread) is_releasing

  begin-machine : MachineInvariant begin machine [] nothing_said
  unfolding nothing_said made_by count_below
  begin-machine = record {
    sized = begin_sized cells logs all;
    logs = λ thread in_range. idle_holds (log_at logs thread) (λ number. payload_of Empty) (all.idle thread in_range);
    begins = λ thread in_range. omega (arith, (all.idle thread in_range).head_least);
    cache_sized = CacheLaws.cache_of-sized cells is_length;
    durable_kept = CacheLaws.cache_of-kept cells;
    locks = record {
      state = λ release. none_made release.made;
      durable = λ release taken. none_made release.made;
      acquire_count = λ acquire. none_made acquire.made;
      in_time = λ release acquire smaller. none_made release.made;
      held = λ {thread} {lock} is_held. never-held lock is_held;
      held_while = λ {thread} {lock} is_releasing. never-releases thread is_releasing;
      last_while = λ {thread} {lock} is_releasing. never-releases thread is_releasing;
      unique = λ one another. none_made one.made;
      paired = λ release. none_made release.made;
    };
    prunes = record {
      acquire_pruned = λ acquire pruned. none_made acquire.made;
      release_pruned = λ release pruned. none_made release.made;
      pruned_count = λ lock. rw (lock-free logs all cells lock) (omega arith);
    };
    heads = λ thread in_range. at-start (omega (arith, (all.idle thread in_range).head_least));
    cells = record {
      chain = λ cell. unlogged;
      cached_is = λ cell. CacheLaws.cache_of-cached cells cell;
      complete = λ is. none_made is.made;
      current = λ is none. none_made is.made;
      kept = λ cell none. CacheLaws.cache_of-persisted cells cell ∙ sym (CacheLaws.cache_of-cached cells cell);
    };
    places = record {
      thread_is = λ place is_accepted. absurd (false≢true is_accepted);
      next_is = λ thread in_range. omega (arith, (all.idle thread in_range).head_least, (all.idle thread in_range).next_is);
      not_yet = λ place beyond. refl;
      made_at = λ is_accepted is_kind. absurd (false≢true is_accepted.is_accepted);
      log_at = λ is_accepted. absurd (false≢true is_accepted.is_accepted);
      release_at = λ is_accepted. absurd (false≢true is_accepted.is_accepted);
      released_by = λ release taken. none_made release.made;
      lock_leads = λ before is_release is_acquire same. absurd (false≢true is_release.is_accepted);
    };
    times = record {
      past = λ thread number made. none_made made;
      later = λ thread number next made also less. none_made made;
      formed = λ thread number made. none_made made;
      entry_step = λ is. none_made is.made;
    };
    counted = record { number = λ lock. ap (λ (state : LockState). state.pruned.0) (lock-free logs all cells lock) };
  }

  pub begin-run : RunInvariant begin machine []
  unfolding nothing_said fed_book
  begin-run = record {
    ghost = nothing_said;
    home = λ thread number. 0;
    machine_holds = begin-machine;
    follows = begin_follows cells logs all;
    regions = regions_start next-most;
    writes = writes_start (λ cell. refl);
    joined = λ place region joined. absurd (false≢true joined.is_accepted);
  }

-- from a machine that has all that the concerns ask, every list of steps leads to one that has
pub run_holds : {start : Beginning} (machine : Machine) → RunInvariant start machine [] → (steps : List Step)
    → RunInvariant start (after machine steps) (history_of machine steps)
run_holds {start} machine begins steps =
    run-keeps
    (RunInvariant start)
    (λ machine history run_holds next is_refused. run-refused run_holds next is_refused)
    (λ machine history run_holds kind thread place value fails. run-effect run_holds kind thread place value fails)
    machine
    []
    begins
    steps

-- the start call, whether 21 refuses its words or not, gives the machine with the start cells: what holds of any 128 cells and the machine
-- with them holds of these two
pub on-start_cells : (P : List ℕ → Machine → Type 0)
    → ((cells : List ℕ) → length cells ≡ cell_count → P cells (machine_with cells fresh_logs)) → (words : List ℕ)
    → P (start_cells words) (start_machine words)
unfolding start_of fresh_machine start_cells
on-start_cells P begins words =
    by_cases
    (ℕ_discrete (length words) cell_count)
    (λ is_length. rw (start_machine, eq-eqb (length words) cell_count is_length) (begins words is_length))
    (λ another. rw (start_machine, ne_eqb (length words) cell_count another) (begins (replicate cell_count 0) refl))

-- the start cells, all 128
pub start-length : (words : List ℕ) → length (start_cells words) ≡ cell_count
start-length = on-start_cells (λ cells machine. length cells ≡ cell_count) (λ cells is_length. is_length)

-- every list of steps from a start call leads to a machine that has all that the concerns ask
pub after_run : (words : List ℕ) (steps : List Step)
    → RunInvariant (beginning_with (start_cells words) fresh_logs) (machine_after words steps) (history_after words steps)
after_run words steps =
    run_holds
    (start_machine words)
    (on-start_cells
    (λ cells machine. RunInvariant (beginning_with cells fresh_logs) machine [])
    (λ cells is_length. begin-run cells fresh_logs is_length fresh-all)
    words)
    steps
