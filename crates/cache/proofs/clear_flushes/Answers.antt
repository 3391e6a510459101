-- `cache::clear_flushes` meets its contract: below the thread's place of the line the list is the cleared one, and from there on the old
-- one.
use native.Mathlib.Omega.{arith}
use mathlib.Core.Path.{◌∙◌}
use Rattle.cache.proofs.Lines.{cleared-starts, cleared-turn, cleared-done}
use Rattle.cache.proofs.clear_flushes.Goals as goal

pub loop-thread-init : goal.loop-thread-init
loop-thread-init c = cleared-starts c.args.line c.args.pending.now c.requires.0 c.requires.1

pub loop-thread-preserved : goal.loop-thread-preserved
loop-thread-preserved c = let l = c.loop-thread in
    rw l.invariant (cleared-turn c.args.line c.args.pending.now c.requires.0 c.requires.1 l.thread (omega arith))

pub returns : goal.returns
returns c = let l = c.loop-thread in
    l.invariant ∙ cleared-done c.args.line c.args.pending.now c.requires.0 c.requires.1 l.thread (omega arith)
