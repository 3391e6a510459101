-- `listing::write_recovered` meets its contract.
use Prim.Native.Nat.{ℕ, ◌+◌, ◌≤◌}
use mathlib.Core.List.{List}
use mathlib.Core.Path.{◌≡◌, subst⁻¹}
use lib.ListN.{length}
use Rattle.print.specs.Printed.{cells_text}
use Rattle.listing.specs.Transcript.{recovered_cells}
use Rattle.listing.proofs.RecoveredLaws.{recovered_are}
use Rattle.listing.proofs.write_recovered.Goals as goal
use Rattle.listing.proofs.write_recovered.Goals.{After-recover}

-- what the two calls leave
cells_are : (c : After-recover) →
    c.recover.new.cells ≡ recovered_cells c.args.machine
cells_are c =
    recovered_are c.args.machine
    c.cut.ensures.image c.recover.ensures

pub write_cells-requires : goal.write_cells-requires
write_cells-requires c = let page = c.args.page.now in
    subst⁻¹ (λ (cells : List ℕ). page.place + length (cells_text 0 cells) ≤ length page.buffer.now)
    (cells_are (goal.at.write_cells-requires c).After-recover)
    c.requires

pub returns : goal.returns
returns c = rw (cells_are (goal.at.returns c).After-recover) at c.write_cells.ensures
