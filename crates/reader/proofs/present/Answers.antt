-- `reader::present` meets its contract.
use Prim.Native.Nat.{◌-◌}
use mathlib.Core.Path.{refl, ◌∙◌}
use lib.ListN.{take}
use borrow.Author.Rules.{rules}
use borrow.Author.Tests.{tests}
use Rattle.std.specs.List.{range_with_len}
use Rattle.std.proofs.lemmas.Iterator.{YieldsList-from_range, YieldsList-from_take}
use Rattle.std.proofs.lemmas.Iterator.Consumers.{count_from_yields_List}
use Rattle.std.proofs.lemmas.Iterator.Search.{YieldsList-from_take_while}
use Rattle.std.proofs.lemmas.List.Folds.{length-prefix_len}
use Rattle.reader.specs.Stretch.{holds, present_of}
use Rattle.reader.proofs.Presence.{present-counts}
use Rattle.reader.proofs.present.Goals as goal

pub returns : goal.returns
unfolding present_of holds
returns c =
    let found = holds c.args.stretch.now in
    let head = c.args.head in
    count_from_yields_List c.take_while.result c.count.result c.count.ensures.ran
    (YieldsList-from_take_while _ found (YieldsList-from_take 64 (YieldsList-from_range head 1000001 (1000001 - head) (cc) refl) (cc))
    c.take_while.ensures.closure c.take_while.ensures.done (λ x b q k. search (rules, tests)))
    ∙ length-prefix_len found (take 64 (range_with_len head (1000001 - head)))
    ∙ present-counts found head 64
