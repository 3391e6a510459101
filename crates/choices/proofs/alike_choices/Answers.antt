-- `choices::alike_choices` meets its contract: too short an image has no choice, and of the others the lines that differ are tried.
use borrow.Author.Tests.{lt-ltb, le-ltb}
use Rattle.cache.specs.Cache.{cell_count}
use Rattle.choices.specs.Counting.{alike_choices}
use Rattle.choices.proofs.MixtureLaws.{whole_images}
use Rattle.choices.proofs.alike_choices.Goals as goal

pub returns-then-evicted-lt-CELLS : goal.returns-then-evicted-lt-CELLS
unfolding alike_choices
returns-then-evicted-lt-CELLS c = rw (lt-ltb _ cell_count c.if-evicted-lt-CELLS.true)

pub returns-then-image-lt-CELLS : goal.returns-then-image-lt-CELLS
unfolding alike_choices
returns-then-image-lt-CELLS c = rw (le-ltb _ cell_count c.if-evicted-lt-CELLS.false, lt-ltb _ cell_count c.if-image-lt-CELLS.true)

pub returns : goal.returns
returns c = let args = c.args in
    whole_images args.evicted.now args.image.now args.seen.now args.kept.now c.if-evicted-lt-CELLS.false
    c.if-image-lt-CELLS.false c.differing_lines.ensures c.count_alike.ensures
