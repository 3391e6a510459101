-- `choices::chosen` meets its contract. The loop's invariant: with what is left of the choice, the marks are those of the whole.
use Prim.Native.Nat.{◌<◌}
use lib.ListN.{length, get_or, take}
use borrow.Author.Rules.{rules}
use Rattle.cache.specs.Cache.{line_count}
use Rattle.choices.proofs.ChoiceLaws.{marking-more, marking-same, marking-ends}
use Rattle.choices.proofs.chosen.Goals as goal
use Rattle.choices.proofs.chosen.Goals.{then-left-eq1, else-left-eq1}

pub loop-line-preserved : goal.loop-line-preserved
loop-line-preserved c = let l = c.loop-line in
    let tried = c.args.tried in
    let lines = take tried.count tried.lines in
    let more : l.line-index < length lines = search rules in
    let inside : get_or lines l.line-index 0 < line_count = tried.below l.line-index more in
    elim c.if-left-eq1.branch [
      | then-left-eq1 w ↦ rw w.marks-is (marking-more l.invariant more inside w.if-left-eq1.true)
      | else-left-eq1 w ↦ rw w.marks-is (marking-same l.invariant more w.if-left-eq1.false)
    ]

pub returns : goal.returns
returns c = marking-ends c.loop-line.invariant (search rules)
