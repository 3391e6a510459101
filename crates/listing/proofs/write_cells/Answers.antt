-- `listing::write_cells` meets its contract. The loop's invariant: the lines of the cells so far are in the buffer.
use mathlib.Core.Path.{◌∙◌}
use Rattle.buffer.proofs.BufferLaws.{placed}
use mathlib.Core.Path.{sym}
use borrow.Author.Rules.{rules}
use Rattle.print.specs.Printed.{cells_text}
use Rattle.print.proofs.PrintLaws.{cells_same, cells-more, cells-done}
use Rattle.listing.proofs.write_cells.Goals as goal
use Rattle.listing.proofs.write_cells.Goals.{else-content-ne0, then-content-ne0}

pub loop-cell-preserved : goal.loop-cell-preserved
loop-cell-preserved c =
    let page = c.args.page.now in
    let cells = c.args.cells.now in
    let at = c.loop-cell in
    elim c.if-content-ne0.branch [
      | then-content-ne0 w ↦
          let wrote = w.write_cell.ensures in
          rw w.page-is (record {
            same = wrote.same_reference ∙ at.invariant.same;
            wrote =
                cells-more page.buffer.now page.place cells c.requires at.cell (search rules) at.invariant.wrote
                w.if-content-ne0.true wrote.place_after wrote.buffer_after;
          })
      | else-content-ne0 w ↦
          rw w.page-is (record {
            same = at.invariant.same;
            wrote = cells_same page.buffer.now page.place cells c.requires at.cell (search rules) at.invariant.wrote w.if-content-ne0.false;
          })
    ]

pub returns : goal.returns
returns c =
    let page = c.args.page.now in
    let cells = c.args.cells.now in
    let whole = cells-done page.buffer.now page.place cells c.requires c.loop-cell.cell (search rules) c.loop-cell.invariant.wrote in
    record {
      same_reference = c.loop-cell.invariant.same;
      place_after = whole.0 ∙ sym (placed page.buffer.now page.place (cells_text 0 cells) c.requires);
      buffer_after = whole.1;
    }
