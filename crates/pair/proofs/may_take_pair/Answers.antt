-- `pair::may_take_pair` meets its contract.
use Prim.Native.Nat.{◌<◌}
use mathlib.Core.Path.{◌≡◌, sym}
use native.Mathlib.Omega.{arith}
use Rattle.sizes.specs.Sizes.{thread_count}
use Rattle.image.specs.Stored.{stored_logs}
use Rattle.image.specs.Reading.{log_in}
use Rattle.pair.proofs.PairLaws.{other-thread, none-remains, other-lsn, last-decides}
use Rattle.pair.proofs.may_take_pair.Goals as goal

pub returns-then-thread-ge-THREADS : goal.returns-then-thread-ge-THREADS
returns-then-thread-ge-THREADS c = let a = c.args in
    sym (other-thread (stored_logs a.image.words.now) a.left a.thread a.lsn (omega (arith, c.if-thread-ge-THREADS.true)))

pub returns-then-count-eq0 : goal.returns-then-count-eq0
returns-then-count-eq0 c = let a = c.args in
    sym (none-remains (stored_logs a.image.words.now) a.left a.thread a.lsn c.if-count-eq0.true)

pub returns-then-lsn-head : goal.returns-then-lsn-head
returns-then-lsn-head c = let a = c.args in
    let head : c.head-head.result.0 ≡ (log_in a.image.words.now a.thread).head = rw c.head-head.ensures in
    sym (other-lsn (stored_logs a.image.words.now) a.left a.thread a.lsn (λ same. omega (arith, c.if-lsn-head.true)))

pub returns-then-lsn-head-2 : goal.returns-then-lsn-head-2
returns-then-lsn-head-2 c = let a = c.args in
    let head : c.head-head.result.0 ≡ (log_in a.image.words.now a.thread).head = rw c.head-head.ensures in
    sym (other-lsn (stored_logs a.image.words.now) a.left a.thread a.lsn (λ same. c.if-lsn-head-2.true (omega (arith, c.if-lsn-head.false))))

pub returns : goal.returns
returns c = let a = c.args in
    let in_range : a.thread < thread_count = omega (arith, c.if-thread-ge-THREADS.false) in
    let head : c.head-head.result.0 ≡ (log_in a.image.words.now a.thread).head = rw c.head-head.ensures in
    last-decides (stored_logs a.image.words.now) a.left a.thread a.lsn in_range
    c.if-count-eq0.false (omega arith) c.may_take.ensures c.entry.ensures
