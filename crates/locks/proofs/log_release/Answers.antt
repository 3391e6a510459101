-- `locks::log_release` meets its contract.
use Rattle.std.specs.Prelude.{Ok}
use Rattle.std.proofs.lemmas.Result.{err_from_is_err_and}
use Rattle.event.specs.declared.Event.TheVariants.{Release}
use Rattle.accessing.proofs.EntryLaws.{entry-refused, entry-made}
use Rattle.locks.specs.LockSteps.{log_release_tests_on, log_release_on}
use Rattle.locks.proofs.log_release.Goals as goal

pub returns-in_err-enter : goal.returns-in_err-enter
unfolding log_release_on
returns-in_err-enter c = let a = c.args in
    let p = err_from_is_err_and c.from_residual.result c.from_residual.ensures.1 in
    rw (p.1, p.2)
    (entry-refused
    a.log.now
    (Release a.place a.lock.count)
    (log_release_tests_on a.log.now a.lock a.thread)
    c.log_release_answer-asked.ensures
    c.enter.ensures
    (λ answer log. record { answer = answer; log = log })
    _
    c.in_err-enter.was)

pub returns : goal.returns
unfolding log_release_on
returns c = let a = c.args in
    entry-made
    a.log.now
    (Release a.place a.lock.count)
    (log_release_tests_on a.log.now a.lock a.thread)
    c.log_release_answer-asked.ensures
    c.enter.ensures
    (λ answer log. record { answer = answer; log = log })
    (λ answer log. record { answer = Ok a.lock.count.0; log = log })
    c.in_ok-enter.was
