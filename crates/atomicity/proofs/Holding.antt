-- Who holds a lock knows what the lock's clock knows, and a thread releases only a lock that it holds.
use Rattle.std.specs.Prelude.{None, Option, Some}
use Prim.Native.Nat.{ℕ, ◌<◌, ◌≤◌}
use mathlib.Core.Path.{◌≡◌, refl, ◌∙◌, ap}
use mathlib.Core.Bool.{false, true, false≢true}
use mathlib.Core.List.{List}
use mathlib.Core.Logic.{by_cases, ◌≢◌}
use native.Mathlib.Decide.{ℕ_discrete, dec_lt}
use native.Mathlib.Omega.{arith}
use lib.ListN.{length, get_or, set, replicate}
use lib.Seq.{get_or-set_same, get_or-set_other, set_out}
use borrow.Author.Tests.{eqb-true}
use Rattle.sizes.specs.Sizes.{thread_count, lock_count}
use Rattle.tail.specs.Tail.{is_releasing_lock}
use Rattle.thread_log.specs.declared.Log.{Log}
use Rattle.clocks.specs.Clocks.{clock_at, join_of, raised_of, no_clock}
use Rattle.machine.specs.Holds.{no_log}
use Rattle.locks.specs.Locks.{no_lock, is_held, is_held_by}
use Rattle.machine.proofs.AcceptedMeans.{held-by_nobody}
use Rattle.machine.proofs.Beginnings.{AllIdle, releases-nothing}
use Rattle.clocks.specs.declared.Clock.{Clock}
use Rattle.locks.specs.declared.Lock.{Lock}
use Rattle.answer.proofs.ListCases.{set_cases, replicate_cases}
use Rattle.clocks.proofs.ClockLaws.{clock_at-join, clock_at-raised-other, clock_at-raised-own}
use Rattle.atomicity.proofs.Locks.{never-both}
use Rattle.atomicity.proofs.ClockInvariant.{numbers_of}

-- the lock that a thread is releasing, and the holder of a lock
abbrev pub releasing_of : List Log → ℕ → Option ℕ
releasing_of logs thread = (get_or logs thread no_log).tail.releasing

abbrev pub holder_of : List Lock → ℕ → Option ℕ
holder_of locks lock = (get_or locks lock no_lock).holder

-- what the holders and the closing threads say of the clocks
pub record Held (logs : List Log) (locks : List Lock) (clocks lock_clocks : List Clock) : Type 0 where
  pub knows_lock : (lock thread : ℕ) → holder_of locks lock ≡ Some thread → (other : ℕ) →
      numbers_of lock_clocks lock other ≤ numbers_of clocks thread other
  pub releases_held : (thread lock : ℕ) → releasing_of logs thread ≡ Some lock → holder_of locks lock ≡ Some thread

-- what the tests on a holder and on a closing thread tell
pub releasing_lock : (releasing : Option ℕ) (lock : ℕ) → is_releasing_lock releasing lock ≡ true → releasing ≡ Some lock
releasing_lock None lock is_releasing = absurd (false≢true is_releasing)
releasing_lock (Some held) lock is_releasing = ap Some (eqb-true held lock is_releasing)

pub held_by : (holder : Option ℕ) (thread : ℕ) → is_held_by holder thread ≡ true → holder ≡ Some thread
held_by None thread is_held = absurd (false≢true is_held)
held_by (Some holder) thread is_held = ap Some (eqb-true holder thread is_held)

-- at a beginning nothing is held
pub begin_held : (logs : List Log) → AllIdle logs → (clocks lock_clocks : List Clock) →
    Held logs (replicate lock_count no_lock) clocks lock_clocks
begin_held logs all clocks lock_clocks = record {
  knows_lock = λ lock thread is_holder.
      never-both (replicate_cases (λ free. free.holder ≡ None) lock_count lock no_lock no_lock refl refl) is_holder;
  releases_held = λ thread lock is_releasing. never-both (releases-nothing logs all thread) is_releasing;
}

module _ (logs : List Log) (locks : List Lock) (clocks lock_clocks : List Clock) (held : Held logs locks clocks lock_clocks) where
  -- another log of a thread keeps what holders and closing threads say of the clocks, if the thread holds the lock that it releases
  pub held-log : (thread : ℕ) (log : Log) → thread < length logs →
      ((lock : ℕ) → log.tail.releasing ≡ Some lock → holder_of locks lock ≡ Some thread) →
      Held (set logs thread log) locks clocks lock_clocks
  held-log thread log inside releases = record {
    knows_lock = held.knows_lock;
    releases_held = λ other lock.
        set_cases
        logs
        thread
        log
        no_log
        inside
        (λ other log. log.tail.releasing ≡ Some lock → holder_of locks lock ≡ Some other)
        (releases lock)
        (λ other differs. held.releases_held other lock)
        other;
  }

  -- another state of a lock with the same holder keeps what holders and closing threads say of the clocks
  pub held-lock : (lock : ℕ) (state : Lock) → state.holder ≡ holder_of locks lock → Held logs (set locks lock state) clocks lock_clocks
  held-lock lock state same_holder = record {
    knows_lock = λ other thread is_holder. held.knows_lock other thread (rw (stays other) at is_holder);
    releases_held = λ thread other is_releasing. rw (stays other) (held.releases_held thread other is_releasing);
  }
    where
      stays : (other : ℕ) → holder_of (set locks lock state) other ≡ holder_of locks other
      stays other =
          by_cases
          (dec_lt lock (length locks))
          (λ inside. set_cases locks lock state no_lock inside (λ other state. state.holder ≡ holder_of locks other)
          same_holder (λ other differs. refl) other)
          (λ outside. rw (set_out locks lock state (omega arith)))

  -- a thread that takes a free lock and joins its clock knows what the lock does
  pub held-acquire : (thread lock : ℕ) (state : Lock) → thread < length clocks → lock < length locks →
      state.holder ≡ Some thread → is_held (holder_of locks lock) ≡ false →
      Held logs (set locks lock state) (set clocks thread (join_of (get_or clocks thread no_clock) (get_or lock_clocks lock no_clock))) lock_clocks
  held-acquire thread lock state inside_clocks inside_locks is_holder is_free = record {
    knows_lock =
        set_cases
        locks
        lock
        state
        no_lock
        inside_locks
        (λ other state. (owner : ℕ) → state.holder ≡ Some owner → (number : ℕ) →
        numbers_of lock_clocks other number ≤ numbers_of joined_clocks owner number)
        (λ owner is_owner number.
        let same_thread : owner ≡ thread = cc in
        rw (same_thread, get_or-set_same clocks thread joined no_clock inside_clocks, clock_at-join) (omega arith))
        (λ other differs owner is_owner number. omega (arith, held.knows_lock other owner is_owner number, grown owner number));
    releases_held = λ owner other is_releasing.
        set_cases
        locks
        lock
        state
        no_lock
        inside_locks
        (λ other state. holder_of locks other ≡ Some owner → state.holder ≡ Some owner)
        (λ was_held. never-both (held-by_nobody (holder_of locks lock) is_free) was_held)
        (λ other differs was_held. was_held)
        other
        (held.releases_held owner other is_releasing);
  }
    where
      joined : Clock
      joined = join_of (get_or clocks thread no_clock) (get_or lock_clocks lock no_clock)

      joined_clocks : List Clock
      joined_clocks = set clocks thread joined

      grown : (owner number : ℕ) → numbers_of clocks owner number ≤ numbers_of joined_clocks owner number
      grown owner number =
          set_cases
          clocks
          thread
          joined
          no_clock
          inside_clocks
          (λ owner clock. numbers_of clocks owner number ≤ clock_at clock number)
          (rw clock_at-join (omega arith))
          (λ owner differs. omega arith)
          owner

  -- a thread that releases a lock gives it up, and only its own number rises
  pub held-release : (thread lock : ℕ) (log : Log) (state : Lock) (clock : Clock) → thread < length clocks →
      thread < length logs → lock < length locks → thread < thread_count → log.tail.releasing ≡ None →
      state.holder ≡ None → holder_of locks lock ≡ Some thread →
      Held (set logs thread log) (set locks lock state)
      (set clocks thread (raised_of (get_or clocks thread no_clock) thread)) (set lock_clocks lock clock)
  held-release thread lock log state clock inside_clocks inside_logs inside_locks in_range is_nothing is_nobody was_held = record {
    knows_lock = λ other owner.
        set_cases
        locks
        lock
        state
        no_lock
        inside_locks
        (λ other state. state.holder ≡ Some owner → (number : ℕ) →
        numbers_of (set lock_clocks lock clock) other number ≤ numbers_of raised_clocks owner number)
        (λ is_owner. never-both is_nobody is_owner)
        (λ other differs is_owner number.
        rw (get_or-set_other lock_clocks lock other clock no_clock differs)
        (omega (arith, held.knows_lock other owner is_owner number, grown owner number)))
        other;
    releases_held = λ owner other.
        set_cases
        logs
        thread
        log
        no_log
        inside_logs
        (λ owner log. log.tail.releasing ≡ Some other → holder_of (set locks lock state) other ≡ Some owner)
        (λ is_releasing. never-both is_nothing is_releasing)
        (λ owner differs is_releasing.
        let was_owner = held.releases_held owner other is_releasing in
        ap (λ (state : Lock). state.holder) (get_or-set_other locks lock other state no_lock (is_else owner other differs was_owner)) ∙
        was_owner)
        owner;
  }
    where
      raised : Clock
      raised = raised_of (get_or clocks thread no_clock) thread

      raised_clocks : List Clock
      raised_clocks = set clocks thread raised

      is_else : (owner other : ℕ) → owner ≢ thread → holder_of locks other ≡ Some owner → other ≢ lock
      is_else owner other differs is_owner same =
          let is_owned : holder_of locks lock ≡ Some owner = rw same at is_owner in
          differs (cc)

      raised-number : (number : ℕ) → numbers_of clocks thread number ≤ clock_at raised number
      raised-number number =
          by_cases
          (ℕ_discrete number thread)
          (λ same. rw (same, clock_at-raised-own (get_or clocks thread no_clock) thread in_range) (omega arith))
          (λ differs. rw (clock_at-raised-other (get_or clocks thread no_clock) thread number differs) (omega arith))

      grown : (owner number : ℕ) → numbers_of clocks owner number ≤ numbers_of raised_clocks owner number
      grown owner number =
          set_cases
          clocks
          thread
          raised
          no_clock
          inside_clocks
          (λ owner clock. numbers_of clocks owner number ≤ clock_at clock number)
          (raised-number number)
          (λ owner differs. omega arith)
          owner
