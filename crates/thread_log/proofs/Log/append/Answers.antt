-- `thread_log::Log::append` meets its contract: it is refused just where the append to the thread's record is.
use Rattle.std.proofs.lemmas.Result.{err_from_is_err_and}
use Rattle.thread_log.proofs.Appends.{append-refused, append-accepted}
use Rattle.thread_log.proofs.Log.append.Goals as goal

pub returns-in_err-number : goal.returns-in_err-number
returns-in_err-number c = let a = c.args in
    let p = err_from_is_err_and c.from_residual.result c.from_residual.ensures.1 in
    rw (p.1, p.2) (append-refused a.self.now a.payload a.closes _ c.append.ensures (c.in_err-number.was))

pub returns : goal.returns
returns c = let a = c.args in
    append-accepted a.self.now a.payload a.closes _ c.append.ensures (c.in_ok-number.was)
