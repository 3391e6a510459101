-- `locks::release` meets its contract.
use Rattle.std.proofs.lemmas.Result.{err_from_is_err_and}
use Rattle.undo.specs.Entering.{end_release_of}
use Rattle.locks.specs.LockSteps.{release_tests, release_on}
use Rattle.locks.proofs.AskedLaws.{asked-refused, asked-accepted}
use Rattle.locks.proofs.release.Goals as goal

pub returns-in_err-release_answer : goal.returns-in_err-release_answer
unfolding release_on
returns-in_err-release_answer c = let a = c.args in
    let p = err_from_is_err_and c.from_residual.result c.from_residual.ensures.1 in
    rw (p.1, p.2)
    (asked-refused
    (λ answer. record { answer = answer; log = a.log.now; lock = a.lock.now; clock = a.clock.now })
    _
    (release_tests a.log.now a.place)
    c.release_answer.ensures
    c.in_err-release_answer.was)

pub returns : goal.returns
unfolding release_on end_release_of
returns c = let a = c.args in
    rw (c.released-log.ensures, c.free.ensures, c.raise.ensures)
    (asked-accepted
    (λ answer. record { answer = answer; log = a.log.now; lock = a.lock.now; clock = a.clock.now })
    _
    (release_tests a.log.now a.place)
    c.release_answer.ensures
    c.in_ok-release_answer.was)
