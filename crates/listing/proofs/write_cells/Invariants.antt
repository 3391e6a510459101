-- The invariant of `listing::write_cells`'s loop: the lines of the cells so far are in the buffer.
use mathlib.Core.Path.{◌≡◌}
use Rattle.print.proofs.PrintLaws.{CellsWrote}
use Rattle.listing.proofs.write_cells.Given as goal

abbrev pub invariant-loop-cell : goal.invariant-loop-cell
invariant-loop-cell l = record {
  same : l.page.buffer.ghost_name ≡ l.initial.page.buffer.ghost_name;
  wrote : CellsWrote l.initial.page.buffer.now l.initial.page.place l.cells l.page.buffer.now l.page.place l.cell;
}
