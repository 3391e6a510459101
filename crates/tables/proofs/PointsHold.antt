-- The table of P points holds.
use mathlib.Core.Path.{◌≡◌, refl}
use mathlib.Core.List.{map}
use mathlib.Core.Bool.{true}
use Rattle.tables.specs.Points.{numbered, lent, answered, last_answered, outcome, recovered, imaged, slot_imaged, empty_image}
use Rattle.tables.specs.Points.{with_entry, logged5, makes, nine, both, tangled, stale, over_pruned, found_of, asked_of, table}
use Rattle.tables.proofs.Rows.{all_given, rows_hold}

table-given : all_given table ≡ true
unfolding all_given numbered lent answered last_answered outcome recovered imaged slot_imaged empty_image with_entry logged5 makes nine both tangled stale over_pruned table
table-given = refl

-- what the documents ask of P1 to P11, and of torn cells and entries, is what the definitions give
pub points_hold : map found_of table ≡ map asked_of table
points_hold = rows_hold table table-given
