-- `undoing::remember` meets its contract.
use mathlib.Core.Path.{◌≡◌}
use native.Mathlib.Omega.{arith}
use Rattle.image.proofs.Tested.{is_readable}
use Rattle.undoing.specs.Undo.{left_of}
use Rattle.undoing.proofs.Pass.{left-few, pass-starts, pass-on, pass-thread, pass-ends}
use Rattle.undoing.proofs.remember.Goals as goal

pub loop-thread-init : goal.loop-thread-init
loop-thread-init c = let tested = c.args.tested in pass-starts (is_readable tested) tested.counted

pub bounds-earlier-thread : goal.bounds-earlier-thread
bounds-earlier-thread c =
    let tested = c.args.tested in
    omega (arith, left-few (is_readable tested) tested.counted c.loop-thread.thread (omega arith))

pub loop-index-preserved : goal.loop-index-preserved
loop-index-preserved c =
    let tested = c.args.tested in
    rw (c.later.ensures, c.lock_of-lock.ensures)
    (pass-on (is_readable tested) tested.counted c.loop-thread.thread c.loop-index.index (omega arith) (omega arith)
    c.loop-index.invariant c.entry-entry.result c.entry-entry.ensures)

pub loop-thread-preserved : goal.loop-thread-preserved
loop-thread-preserved c =
    let tested = c.args.tested in
    let all : c.loop-index.index ≡ left_of tested.present c.loop-thread.thread = omega arith in
    pass-thread (is_readable tested) tested.counted c.loop-thread.thread (rw all at c.loop-index.invariant)

pub returns : goal.returns
returns c =
    let tested = c.args.tested in
    let all : c.loop-thread.thread ≡ 4 = omega arith in
    pass-ends (is_readable tested) tested.counted (rw all at c.loop-thread.invariant)
