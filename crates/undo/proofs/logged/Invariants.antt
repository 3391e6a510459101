-- The invariant of `undo::logged`'s loop: the search among the entries that are left finds what the whole search finds.
use mathlib.Core.Path.{◌≡◌}
use Rattle.undo.specs.Regions.{logged_among, logged_of}
use Rattle.undo.proofs.logged.Given as goal

abbrev pub invariant-loop-index : goal.invariant-loop-index
invariant-loop-index l = logged_of l.log l.cell ≡ logged_among l.log l.cell l.index
