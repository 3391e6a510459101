-- ACQUIRE, LOGREL and RELEASE, asked of a thread's log, a lock and the thread's clock: their refusals in order, and what each leaves of
-- these parts.
use Rattle.std.specs.Prelude.{Ok, ℕ, ◌-◌, not, List, [], ◌∷◌, ◌++◌}
use Rattle.answer.specs.Answer.{Answer}
use Rattle.answer.specs.Refusals.{Test, ◌⇒◌, unless}
use Rattle.answer.specs.declared.Refusal.TheVariants.{Releasing, EntryNotDurable, LockHeld, LockNotHeld, NotReleasing}
use Rattle.tail.specs.Tail.{is_releasing_lock}
use Rattle.thread_log.specs.Entries.{Changed, append_tests}
use Rattle.thread_log.specs.declared.Log.{Log}
use Rattle.undo.specs.Entering.{enter_of, end_release_of}
use Rattle.undo.specs.Regions.{is_closing, is_undurable_up_to}
use Rattle.event.specs.declared.Event.TheVariants.{Acquire, Release}
use Rattle.clocks.specs.Clocks.{join_of, raise_of}
use Rattle.clocks.specs.declared.Clock.{Clock}
use Rattle.locks.specs.Locks.{is_held, is_held_by, taken_by, free_of}
use Rattle.locks.specs.declared.Lock.{Lock}

-- the answer of an ACQUIRE or a RELEASE, beside the thread's log, the lock and the thread's clock after it
pub record Handed : Type 0 where
  pub answer : Answer
  pub log : Log
  pub lock : Lock
  pub clock : Clock

-- ACQUIRE 7, 12
abbrev pub acquire_tests_on : Log → Lock → List Test
acquire_tests_on log lock = (is_closing log ⇒ Releasing) ∷ (is_held lock.holder ⇒ LockHeld) ∷ []

-- "ACQUIRE lock: takes it and appends ACQUIRE with the count. Answers the count." Refused by 7, 12, 6, 5. The thread knows what the lock's
-- last RELEASE knew.
unfoldable pub acquire_on : Log → Lock → Clock → Clock → ℕ → ℕ → Handed
acquire_on log lock clock last thread place =
    unless
    (λ answer. record { answer = answer; log = log; lock = lock; clock = clock })
    (acquire_tests_on log lock ++ append_tests log)
    (record {
      answer = Ok lock.count.0;
      log = enter_of log (Acquire place lock.count);
      lock = taken_by lock thread;
      clock = join_of clock last;
    })

-- LOGREL 7, 13
abbrev pub log_release_tests_on : Log → Lock → ℕ → List Test
log_release_tests_on log lock thread =
    (is_closing log ⇒ Releasing) ∷
    (not (is_held_by lock.holder thread) ⇒ LockNotHeld) ∷ []

-- "LOGREL lock: appends RELEASE with the count; the thread is closing. Answers the count." Refused by 7, 13, 6, 5.
unfoldable pub log_release_on : Log → Lock → ℕ → ℕ → Changed
log_release_on log lock thread place =
    unless
    (λ answer. record { answer = answer; log = log })
    (log_release_tests_on log lock thread ++ append_tests log)
    (record { answer = Ok lock.count.0; log = enter_of log (Release place lock.count) })

-- RELEASE 14, 11: the RELEASE entry is the thread's last one
unfoldable pub release_tests : Log → ℕ → List Test
release_tests log lock =
    (not (is_releasing_lock log.tail.releasing lock) ⇒ NotReleasing) ∷
    (is_undurable_up_to log (log.tail.next.0 - 1) ⇒ EntryNotDurable) ∷ []

-- "RELEASE lock: frees it, adds 1 to the count, ends closing." The thread's own number grows.
unfoldable pub release_on : Log → Lock → Clock → ℕ → ℕ → Handed
release_on log lock clock thread place =
    unless
    (λ answer. record { answer = answer; log = log; lock = lock; clock = clock })
    (release_tests log place)
    (record { answer = Ok 0; log = end_release_of log; lock = free_of lock; clock = raise_of clock thread })
