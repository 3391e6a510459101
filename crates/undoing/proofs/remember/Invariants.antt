-- `undoing::remember` meets its contract. The loops' invariant: what is remembered is that of the entries that are passed.
use Rattle.undoing.specs.Latest.{Remembers}
use Rattle.undoing.proofs.Pass.{seen_of}
use Rattle.undoing.proofs.remember.Given as goal

abbrev pub invariant-loop-thread : goal.invariant-loop-thread
invariant-loop-thread l = Remembers l.tested.headed.words.now (seen_of l.tested.present l.thread 0) l.latest l.earlier

abbrev pub invariant-loop-index : goal.invariant-loop-index
invariant-loop-index l = Remembers l.tested.headed.words.now (seen_of l.tested.present l.thread l.index) l.latest l.earlier
