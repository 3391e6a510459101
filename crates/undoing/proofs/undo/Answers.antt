-- `undoing::undo` meets its contract. The loop's invariant: the turns that are left lead to the whole undo.
use mathlib.Core.Path.{◌∙◌}
use native.Mathlib.Omega.{arith}
use borrow.Author.Rules.{rules}
use Rattle.cells.proofs.CopyLaws.{copied-whole}
use Rattle.image.proofs.Tested.{is_readable}
use Rattle.undoing.proofs.Turns.{turns-start, turns-stop, turns-end, turn-has, turn-few, turn-good, turns-on}
use Rattle.undoing.proofs.undo.Goals as goal

pub loop-turn-init : goal.loop-turn-init
loop-turn-init c =
    let tested = c.args.tested in
    turns-start (is_readable tested) tested.counted c.remember.ensures
    (c.copy_cells.ensures ∙ copied-whole _ _ (omega (arith, tested.headed.long)) (search rules))

pub returns-in_default : goal.returns-in_default
returns-in_default c = turns-stop c.loop-turn.invariant c.in_default.ensures

pub overflow_sub-index : goal.overflow_sub-index
overflow_sub-index c = turn-has c.loop-turn.invariant c.in-Some.thread c.in-Some.ensures

pub bounds-earlier-thread : goal.bounds-earlier-thread
bounds-earlier-thread c =
    omega (
      arith,
      c.in-Some.ensures.inside,
      turn-has c.loop-turn.invariant c.in-Some.thread c.in-Some.ensures,
      turn-few c.loop-turn.invariant c.in-Some.thread c.in-Some.ensures,
    )

pub write_back-requires : goal.write_back-requires
write_back-requires c = rw c.entry-last.ensures (turn-good c.loop-turn.invariant c.in-Some.thread c.in-Some.ensures)

pub loop-turn-preserved : goal.loop-turn-preserved
loop-turn-preserved c =
    rw (c.write_back.ensures, c.lock_of.ensures)
    (turns-on c.loop-turn.invariant c.in-Some.thread c.in-Some.ensures (search rules) c.entry-last.ensures)

pub returns : goal.returns
returns c = turns-end c.loop-turn.invariant (omega arith)
