-- `undoing::may_take` meets its contract.
use Rattle.image.specs.Reading.{log_in}
use Rattle.undoing.specs.Undo.{left_of}
use Rattle.undoing.proofs.Asked.{nothing-may, other-may, release-may}
use Rattle.undoing.proofs.may_take.Goals as goal

pub returns-then-left-thread-eq0 : goal.returns-then-left-thread-eq0
returns-then-left-thread-eq0 c =
    let a = c.args in
    nothing-may (log_in a.image.words.now a.thread) (left_of a.left.now a.thread) a.latest.now c.if-left-thread-eq0.true

pub returns-then-last-ne-RELEASE_ENTRY : goal.returns-then-last-ne-RELEASE_ENTRY
returns-then-last-ne-RELEASE_ENTRY c =
    let a = c.args in
    other-may (log_in a.image.words.now a.thread) (left_of a.left.now a.thread) a.latest.now c.if-left-thread-eq0.false
    c.entry-last.ensures c.if-last-ne-RELEASE_ENTRY.true

pub returns : goal.returns
returns c =
    let a = c.args in
    release-may (log_in a.image.words.now a.thread) (left_of a.left.now a.thread) a.latest.now c.if-left-thread-eq0.false
    c.entry-last.ensures c.if-last-ne-RELEASE_ENTRY.false c.lock_of.result c.lock_of.ensures c.waits.ensures
