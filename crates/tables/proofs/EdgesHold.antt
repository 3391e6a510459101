-- The table of edges holds.
use mathlib.Core.Path.{◌≡◌, refl}
use mathlib.Core.Bool.{true}
use Rattle.tables.specs.Points.{numbered, lent, answered, outcome, recovered, empty_image, with_entry, makes, tangled}
use Rattle.tables.specs.Edges.{asks, takes, given, from_slots, from_rank, zero_cells, around, logs127, closes7, released7, input_rows}
use Rattle.tables.specs.Edges.{closing, firm5, ranks62, state_rows, follows, prunes, in_turn, writes_again, nested, prune_rows, asks_along}
use Rattle.tables.specs.Edges.{crowded, runs_out, appends, room_rows, logs64, logs_nine, stores_nine, ends_nine, passes_nine, closes_early}
use Rattle.tables.specs.Edges.{unordered, traces, again_rows, worked, turns, after_turns, refusals, given_rows, stored, four_kept, keeps}
use Rattle.tables.specs.Edges.{frees, kept_rows, says, keeps_read, line_rows, flushes_all, fence_rows, started, untouched, words}
use Rattle.tables.specs.Edges.{logs_under6, evicts, tears, striped, logs_many, enters, many_rows}
use Rattle.tables.specs.Edges.{image_rows, logs, alone, with_head, full, waits_for_none, waits_for3, recoveries, recovery_rows}
use Rattle.tables.specs.Edges.{foreign, order_rows, marks, marks_each, three_and_one, waits_for_two, waits_for_no_other, tangled_behind}
use Rattle.tables.specs.Edges.{full_order, handed_on, check_rows, holds, passes5, other_rows, edges, Edges}
use Rattle.tables.proofs.Rows.{all_given, rows_hold}

edges-given : all_given edges ≡ true
unfolding all_given numbered lent answered outcome recovered empty_image with_entry makes tangled asks takes given from_slots from_rank zero_cells around logs127 closes7 released7 input_rows closing firm5 ranks62 state_rows follows prunes in_turn writes_again nested prune_rows asks_along crowded runs_out appends room_rows logs64 logs_nine stores_nine ends_nine passes_nine closes_early unordered traces again_rows worked turns after_turns refusals given_rows logs_many enters many_rows stored four_kept keeps frees kept_rows says keeps_read line_rows flushes_all fence_rows started untouched words logs_under6 evicts tears striped image_rows logs alone with_head full waits_for_none waits_for3 recoveries recovery_rows foreign order_rows marks marks_each three_and_one waits_for_two waits_for_no_other tangled_behind full_order handed_on check_rows holds passes5 other_rows edges
edges-given = refl

pub edges_hold : Edges
edges_hold = rows_hold edges edges-given
