-- `choices::is_alike` meets its contract. The loop's invariant: no cell before `cell` would be another than the kept one.
use mathlib.Core.Bool.{not}
use lib.ListN.{get_or}
use lib.Dec.{eqb}
use Rattle.answer.proofs.Searches.{Searched}
use Rattle.cache.specs.Cache.{cell_count}
use Rattle.choices.specs.Counting.{mixed_at}
use Rattle.choices.proofs.is_alike.Given as goal

abbrev pub invariant-loop-cell : goal.invariant-loop-cell
invariant-loop-cell l = Searched cell_count (λ i. not (eqb (mixed_at l.marks l.seen l.kept i) (get_or l.kept i 0))) l.cell
