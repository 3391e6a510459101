-- The clocks' invariant: each thread's clock knows what happens before that thread's steps, each lock's what happens before its RELEASE
-- steps.
use Prim.Native.Nat.{ℕ, suc, ◌<◌, ◌≤◌}
use mathlib.Core.Path.{◌≡◌, refl, sym}
use mathlib.Core.Bool.{true, false, false≢true}
use mathlib.Core.List.{List, []}
use mathlib.Core.Logic.{by_cases, ◌≢◌}
use native.Mathlib.Decide.{ℕ_discrete}
use native.Mathlib.Omega.{arith}
use lib.ListN.{length, get_or, set, replicate, get_or-replicate}
use Rattle.sizes.specs.Sizes.{thread_count, lock_count}
use Rattle.clocks.specs.Clocks.{clock_at, join_of, raised_of, no_clock, start_clocks}
use Rattle.clocks.specs.declared.Clock.{Clock}
use Rattle.atomicity.specs.History.{Fed, step_at}
use Rattle.atomicity.specs.HappensBefore.{HappensBefore}
use Rattle.atomicity.proofs.Ordered.{and_then, StepOf, ReleaseOf, Reaches, next-of-thread}
use Rattle.atomicity.proofs.Epochs.{releases, releases-grow, releases-refused, releases-kind, releases-thread, releases-more}
use Rattle.atomicity.proofs.Knowledge.{Knows, KnowsNext, knows-refused, knows-other, knows-next, next_known, next-acquire-known}
use Rattle.atomicity.proofs.Knowledge.{next-raised}
use Rattle.answer.proofs.ListCases.{set_cases}
use Rattle.clocks.proofs.ClockLaws.{clock_at-join, clock_at-raised-other, clock_at-raised-own, clock_at-none, start-raised}

-- a clock of a list of clocks, as its numbers
abbrev pub numbers_of : List Clock → ℕ → ℕ → ℕ
numbers_of clocks index = clock_at (get_or clocks index no_clock)

-- what the clocks of the threads and of the locks say of a history
pub record Clocked (clocks lock_clocks : List Clock) (history : List Fed) : Type 0 where
  -- a thread's own number is 1 and its RELEASE steps, and no other clock has reached that
  pub own : (thread : ℕ) → thread < thread_count → numbers_of clocks thread thread ≡ suc (releases history thread)
  pub others : (thread other : ℕ) → thread < thread_count → other ≢ thread → numbers_of clocks thread other ≤ releases history other
  pub lock_numbers : (lock other : ℕ) → lock < lock_count → numbers_of lock_clocks lock other ≤ releases history other
  pub threads : (thread : ℕ) → thread < thread_count → Knows history (StepOf thread) (numbers_of clocks thread)
  pub locks : (lock : ℕ) → lock < lock_count → Knows history (ReleaseOf lock) (numbers_of lock_clocks lock)

-- nothing happened, and nothing is known
pub clocked_start : Clocked start_clocks (replicate lock_count no_clock) []
unfolding releases
clocked_start = record {
  own = λ thread in_range. rw (start-raised thread in_range, clock_at-raised-own, clock_at-none);
  others = λ thread other in_range differs.
      rw (start-raised thread in_range, clock_at-raised-other no_clock thread other differs, clock_at-none) (omega arith);
  lock_numbers = λ lock other in_range. rw (get_or-replicate lock_count lock no_clock no_clock in_range, clock_at-none) (omega arith);
  threads = λ thread in_range. nothing (StepOf thread) (numbers_of start_clocks thread);
  locks = λ lock in_range. nothing (ReleaseOf lock) (numbers_of (replicate lock_count no_clock) lock);
}
  where
    nothing : (Sort : Fed → Type 0) (numbers : ℕ → ℕ) → Knows [] Sort numbers
    nothing Sort numbers = record {
      reaches = λ place is_accepted counted. absurd (false≢true is_accepted);
      counts = λ place is_accepted reached. absurd (false≢true is_accepted);
    }

module _ (clocks lock_clocks : List Clock) (history : List Fed) (next : Fed) (clocked : Clocked clocks lock_clocks history) where
  -- a refused step keeps what the clocks say of the history
  pub clocked-refused : next.accepted ≡ false → Clocked clocks lock_clocks (and_then history next)
  clocked-refused is_refused = record {
    own = λ thread in_range. rw (releases-refused history next thread is_refused) (clocked.own thread in_range);
    others = λ thread other in_range differs.
        rw (releases-refused history next other is_refused) (clocked.others thread other in_range differs);
    lock_numbers = λ lock other in_range. rw (releases-refused history next other is_refused) (clocked.lock_numbers lock other in_range);
    threads = λ thread in_range.
        knows-refused history next (StepOf thread) (numbers_of clocks thread) is_refused (clocked.threads thread in_range);
    locks = λ lock in_range. knows-refused history next (ReleaseOf lock) (numbers_of lock_clocks lock) is_refused (clocked.locks lock in_range);
  }

  -- the clock of the thread that takes the next step knows what happens before it, if that is no ACQUIRE (4)
  pub clock-knows-next : next.accepted ≡ true → next.thread < thread_count → next.kind ≢ 4 →
      KnowsNext history next (numbers_of clocks next.thread)
  clock-knows-next is_accepted in_range is_other =
      next_known history next is_accepted (numbers_of clocks next.thread) (clocked.threads next.thread in_range) is_other

  module _ (is_accepted : next.accepted ≡ true) (in_range : next.thread < thread_count) where
    -- what is known of another thread, or of a lock that is not released, stays
    thread-stays : (thread : ℕ) → thread < thread_count → next.thread ≢ thread →
        Knows (and_then history next) (StepOf thread) (numbers_of clocks thread)
    thread-stays thread is_thread differs =
        knows-other history next (StepOf thread) (numbers_of clocks thread) differs
        (clocked.others thread next.thread is_thread differs) (clocked.threads thread is_thread)

    lock-stays : (lock : ℕ) → lock < lock_count → (ReleaseOf lock next → ⊥) →
        Knows (and_then history next) (ReleaseOf lock) (numbers_of lock_clocks lock)
    lock-stays lock is_lock is_other =
        knows-other history next (ReleaseOf lock) (numbers_of lock_clocks lock) is_other
        (clocked.lock_numbers lock next.thread is_lock) (clocked.locks lock is_lock)

    -- what is known of the thread that takes the step
    thread-knows : (numbers : ℕ → ℕ) → suc (releases history next.thread) ≤ numbers next.thread →
        KnowsNext history next numbers → Knows (and_then history next) (StepOf next.thread) numbers
    thread-knows numbers is_counted knows =
        knows-next history next (StepOf next.thread) numbers is_accepted refl
        (λ place was_accepted reached. next-of-thread history next is_accepted reached) is_counted knows

    -- an accepted step other than ACQUIRE (4) and RELEASE (6) keeps what the clocks say of the history
    pub clocked-plain : next.kind ≢ 4 → next.kind ≢ 6 → Clocked clocks lock_clocks (and_then history next)
    clocked-plain not_acquire not_release = record {
      own = λ thread is_thread. rw (releases-kind history next thread not_release) (clocked.own thread is_thread);
      others = λ thread other is_thread differs.
          rw (releases-kind history next other not_release) (clocked.others thread other is_thread differs);
      lock_numbers = λ lock other is_lock. rw (releases-kind history next other not_release) (clocked.lock_numbers lock other is_lock);
      threads = λ thread is_thread.
          by_cases
          (ℕ_discrete next.thread thread)
          (λ same. rw (← same)
          (thread-knows (numbers_of clocks next.thread) (omega (arith, clocked.own next.thread in_range))
          (clock-knows-next is_accepted in_range not_acquire)))
          (λ differs. thread-stays thread is_thread differs);
      locks = λ lock is_lock. lock-stays lock is_lock (λ is_release. not_release is_release.0);
    }

    module _ (whole : length clocks ≡ thread_count) where
      -- an accepted ACQUIRE (4) that joins the lock's clock into the thread's keeps what the clocks say of the history
      pub clocked-acquire : next.kind ≡ 4 → next.place < lock_count →
          Clocked (set clocks next.thread (join_of (get_or clocks next.thread no_clock) (get_or lock_clocks next.place no_clock)))
          lock_clocks (and_then history next)
      clocked-acquire is_acquire is_locked = record {
        own =
            at-threads
            (λ thread clock. thread < thread_count → clock_at clock thread ≡ suc (releases (and_then history next) thread))
            (λ is_thread.
            rw (releases-kind history next next.thread not_release, clock_at-join)
            (omega (arith, clocked.own next.thread in_range, clocked.lock_numbers next.place next.thread is_locked)))
            (λ thread differs is_thread. rw (releases-kind history next thread not_release) (clocked.own thread is_thread));
        others = λ thread other.
            at-threads
            (λ thread clock. thread < thread_count → other ≢ thread → clock_at clock other ≤ releases (and_then history next) other)
            (λ is_thread is_other.
            rw (releases-kind history next other not_release, clock_at-join)
            (omega (arith, clocked.others next.thread other in_range is_other, clocked.lock_numbers next.place other is_locked)))
            (λ thread differs is_thread is_other.
            rw (releases-kind history next other not_release) (clocked.others thread other is_thread is_other))
            thread;
        lock_numbers = λ lock other is_lock. rw (releases-kind history next other not_release) (clocked.lock_numbers lock other is_lock);
        threads =
            at-threads
            (λ thread clock. thread < thread_count → Knows (and_then history next) (StepOf thread) (clock_at clock))
            (λ is_thread. thread-knows (clock_at joined) (rw clock_at-join (omega (arith, clocked.own next.thread in_range))) joined-knows)
            (λ thread differs is_thread. thread-stays thread is_thread (λ same. differs (sym same)));
        locks = λ lock is_lock. lock-stays lock is_lock (λ is_release. not_release is_release.0);
      }
        where
          joined : Clock
          joined = join_of (get_or clocks next.thread no_clock) (get_or lock_clocks next.place no_clock)

          not_release : next.kind ≢ 6
          not_release is_release = omega arith

          at-threads : (P : ℕ → Clock → Type 0) → P next.thread joined →
              ((thread : ℕ) → thread ≢ next.thread → P thread (get_or clocks thread no_clock)) → (thread : ℕ) →
              P thread (get_or (set clocks next.thread joined) thread no_clock)
          at-threads = set_cases clocks next.thread joined no_clock (omega arith)

          joined-knows : KnowsNext history next (clock_at joined)
          joined-knows =
              let knows =
              next-acquire-known history next is_accepted (numbers_of clocks next.thread)
              (clocked.threads next.thread in_range) (numbers_of lock_clocks next.place) is_acquire
              (clocked.locks next.place is_locked) in
              record {
                before = λ place was_accepted counted. knows.before place was_accepted (rw clock_at-join at counted);
                counts = λ place was_accepted last. rw clock_at-join (knows.counts place was_accepted last);
              }

      -- an accepted RELEASE (6) that gives the lock the thread's clock and raises the thread's own number keeps what the clocks say of
      -- the history, if the thread knew all that the lock did
      pub clocked-release : length lock_clocks ≡ lock_count → next.kind ≡ 6 → next.place < lock_count →
          ((other : ℕ) → numbers_of lock_clocks next.place other ≤ numbers_of clocks next.thread other) →
          Clocked (set clocks next.thread (raised_of (get_or clocks next.thread no_clock) next.thread))
          (set lock_clocks next.place (get_or clocks next.thread no_clock)) (and_then history next)
      clocked-release whole_locks is_release is_locked knew_lock = record {
        own =
            at-threads
            (λ thread clock. thread < thread_count → clock_at clock thread ≡ suc (releases (and_then history next) thread))
            (λ is_thread. rw (one_more, clock_at-raised-own) (omega (arith, clocked.own next.thread in_range)))
            (λ thread differs is_thread.
            rw (releases-thread history next thread (λ same. differs (sym same))) (clocked.own thread is_thread));
        others = λ thread other.
            at-threads
            (λ thread clock. thread < thread_count → other ≢ thread → clock_at clock other ≤ releases (and_then history next) other)
            (λ is_thread is_other.
            rw (clock_at-raised-other old next.thread other is_other)
            (omega (arith, clocked.others next.thread other in_range is_other, releases-grow history next other)))
            (λ thread differs is_thread is_other.
            omega (arith, clocked.others thread other is_thread is_other, releases-grow history next other))
            thread;
        lock_numbers = λ lock other.
            at-locks
            (λ lock clock. lock < lock_count → clock_at clock other ≤ releases (and_then history next) other)
            (λ is_lock.
            by_cases
            (ℕ_discrete other next.thread)
            (λ same. rw (same, one_more) (omega (arith, clocked.own next.thread in_range)))
            (λ differs. omega (arith, clocked.others next.thread other in_range differs, releases-grow history next other)))
            (λ lock differs is_lock. omega (arith, clocked.lock_numbers lock other is_lock, releases-grow history next other))
            lock;
        threads =
            at-threads
            (λ thread clock. thread < thread_count → Knows (and_then history next) (StepOf thread) (clock_at clock))
            (λ is_thread.
            thread-knows (clock_at raised) (rw clock_at-raised-own (omega (arith, clocked.own next.thread in_range))) raised-knows)
            (λ thread differs is_thread. thread-stays thread is_thread (λ same. differs (sym same)));
        locks =
            at-locks
            (λ lock clock. lock < lock_count → Knows (and_then history next) (ReleaseOf lock) (clock_at clock))
            (λ is_lock. knows-next history next (ReleaseOf next.place) (clock_at old) is_accepted (is_release, refl)
            lock-reached (omega (arith, clocked.own next.thread in_range)) next-knows)
            (λ lock differs is_lock. lock-stays lock is_lock (λ is_released. differs (sym is_released.1)));
      }
        where
          old : Clock
          old = get_or clocks next.thread no_clock

          raised : Clock
          raised = raised_of old next.thread

          not_acquire : next.kind ≢ 4
          not_acquire is_acquire = omega arith

          one_more : releases (and_then history next) next.thread ≡ suc (releases history next.thread)
          one_more = releases-more history next next.thread is_accepted is_release refl

          at-threads : (P : ℕ → Clock → Type 0) → P next.thread raised →
              ((thread : ℕ) → thread ≢ next.thread → P thread (get_or clocks thread no_clock)) → (thread : ℕ) →
              P thread (get_or (set clocks next.thread raised) thread no_clock)
          at-threads = set_cases clocks next.thread raised no_clock (omega arith)

          at-locks : (P : ℕ → Clock → Type 0) → P next.place old →
              ((lock : ℕ) → lock ≢ next.place → P lock (get_or lock_clocks lock no_clock)) → (lock : ℕ) →
              P lock (get_or (set lock_clocks next.place old) lock no_clock)
          at-locks = set_cases lock_clocks next.place old no_clock (omega arith)

          next-knows : KnowsNext history next (clock_at old)
          next-knows = clock-knows-next is_accepted in_range not_acquire

          raised-knows : KnowsNext history next (clock_at raised)
          raised-knows =
              next-raised history next (clock_at old) (clock_at raised) is_accepted
              (clock_at-raised-other old next.thread) (rw clock_at-raised-own (omega arith)) next-knows

          lock-reached : (place : ℕ) → (step_at history place).accepted ≡ true →
              Reaches history (ReleaseOf next.place) place →
              HappensBefore (and_then history next) place (length history)
          lock-reached place was_accepted reached =
              next-knows.before place was_accepted
              (omega (
                arith,
                (clocked.locks next.place is_locked).counts place was_accepted reached,
                knew_lock (step_at history place).thread,
              ))
