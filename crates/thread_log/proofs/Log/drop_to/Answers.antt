-- `thread_log::Log::drop_to` meets its contract: an LSN before the head or past the next one changes nothing.
use native.Mathlib.Omega.{arith}
use borrow.Author.Tests.{le-leb, lt-leb}
use Rattle.thread_log.specs.Entries.{drop_to_of}
use Rattle.thread_log.proofs.Log.drop_to.Goals as goal
use Rattle.thread_log.proofs.Log.drop_to.Goals.{else-self-head-via-then-self-head+else-head-self, else-self-head-via-else-self-head}

pub returns-then-head-self : goal.returns-then-head-self
unfolding drop_to_of
returns-then-head-self c = let log = c.args.self.now in
    let head = c.args.head.0 in
    rw (le-leb log.head.0 head (omega arith), le-leb head log.tail.next.0 (omega arith))

pub returns-else-self-head : goal.returns-else-self-head
unfolding drop_to_of
returns-else-self-head c = let log = c.args.self.now in
    let head = c.args.head.0 in
    elim c.else-self-head.branch [
      | else-self-head-via-then-self-head+else-head-self w ↦
          rw (le-leb log.head.0 head (omega arith), lt-leb head log.tail.next.0 (omega arith))
      | else-self-head-via-else-self-head w ↦ rw (lt-leb log.head.0 head (omega arith))
    ]
