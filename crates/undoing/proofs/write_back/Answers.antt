-- `undoing::write_back` meets its contract: a STORE that is good is of a cell.
use native.Mathlib.Omega.{arith}
use Rattle.image.proofs.GoodEntries.{good-store}
use Rattle.undoing.proofs.write_back.Goals as goal

pub offset_bounds-cells-taken : goal.offset_bounds-cells-taken
offset_bounds-cells-taken c = omega (arith, good-store c.args.taken c.requires c.if-taken-eq-STORE_ENTRY.true)

pub bounds-cells-taken : goal.bounds-cells-taken
bounds-cells-taken c = good-store c.args.taken c.requires c.if-taken-eq-STORE_ENTRY.true
