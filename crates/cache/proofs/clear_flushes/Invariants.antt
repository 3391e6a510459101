-- `cache::clear_flushes` meets its contract: below the thread's place of the line the list is the cleared one, and from there on the old
-- one.
use Prim.Native.Nat.{◌+◌, ◌*◌}
use mathlib.Core.Path.{◌≡◌}
use Rattle.answer.proofs.ListLaws.{partly}
use Rattle.cache.proofs.Lines.{cleared}
use Rattle.cache.proofs.clear_flushes.Given as goal

abbrev pub invariant-loop-thread : goal.invariant-loop-thread
invariant-loop-thread l = l.pending ≡ partly (l.thread * 16 + l.line) (cleared l.line l.initial.pending) l.initial.pending
