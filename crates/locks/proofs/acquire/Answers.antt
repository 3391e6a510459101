-- `locks::acquire` meets its contract: the lock and the clock change where the log gets the entry.
use Rattle.std.specs.Prelude.{Ok}
use Rattle.std.proofs.lemmas.Result.{err_from_is_err_and}
use Rattle.event.specs.declared.Event.TheVariants.{Acquire}
use Rattle.clocks.specs.Clocks.{join_of}
use Rattle.accessing.proofs.EntryLaws.{entry-refused, entry-made}
use Rattle.locks.specs.Locks.{taken_by}
use Rattle.locks.specs.LockSteps.{acquire_tests_on, acquire_on}
use Rattle.locks.proofs.acquire.Goals as goal

pub returns-in_err-enter : goal.returns-in_err-enter
unfolding acquire_on
returns-in_err-enter c = let a = c.args in
    let p = err_from_is_err_and c.from_residual.result c.from_residual.ensures.1 in
    rw (p.1, p.2)
    (entry-refused
    a.log.now
    (Acquire a.place a.lock.now.count)
    (acquire_tests_on a.log.now a.lock.now)
    c.acquire_answer-asked.ensures
    c.enter.ensures
    (λ answer log. record { answer = answer; log = log; lock = a.lock.now; clock = a.clock.now })
    _
    c.in_err-enter.was)

pub returns : goal.returns
unfolding acquire_on
returns c = let a = c.args in
    rw c.join.ensures
    (entry-made
    a.log.now
    (Acquire a.place a.lock.now.count)
    (acquire_tests_on a.log.now a.lock.now)
    c.acquire_answer-asked.ensures
    c.enter.ensures
    (λ answer log. record { answer = answer; log = log; lock = a.lock.now; clock = a.clock.now })
    (λ answer log. record {
      answer = Ok a.lock.now.count.0;
      log = log;
      lock = taken_by a.lock.now a.thread;
      clock = join_of a.clock.now a.last;
    })
    c.in_ok-enter.was)
