-- `undoing::undo` meets its contract. The loop's invariant: the turns that are left lead to the whole undo.
use Rattle.undoing.proofs.Turns.{Midway}
use Rattle.undoing.proofs.undo.Given as goal

abbrev pub invariant-loop-turn : goal.invariant-loop-turn
invariant-loop-turn l = Midway l.image.words.now l.left l.latest l.earlier l.cells l._turn
