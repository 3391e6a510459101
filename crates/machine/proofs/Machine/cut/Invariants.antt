-- `machine::Machine::cut` meets its contract: the cells, and the heads and stretches of the threads below this one, are written.
use Rattle.machine.proofs.ImageWritten.{WrittenTo}
use Rattle.machine.proofs.Machine.cut.Given as goal

abbrev pub invariant-loop-thread : goal.invariant-loop-thread
invariant-loop-thread l = WrittenTo l.fn.self l.image l.thread
