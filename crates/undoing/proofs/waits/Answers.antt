-- `undoing::waits` meets its contract.
use Prim.Native.Nat.{ℕ}
use mathlib.Core.Path.{◌≡◌, ap, ◌∙◌}
use mathlib.Core.Bool.{Bool}
use lib.Dec.{ltb}
use lib.ListN.{length}
use borrow.Author.Rules.{rules}
use borrow.Author.Tests.{tests}
use Rattle.std.proofs.lemmas.Iterator.{YieldsList-from_slice}
use Rattle.std.proofs.lemmas.Iterator.Search.{any_from_yields_List}
use Rattle.sizes.specs.Sizes.{thread_count}
use Rattle.answer.specs.Lists.{some_below}
use Rattle.answer.proofs.Searches.{any-list}
use Rattle.event.specs.Events.{sync_count}
use Rattle.event.specs.declared.SyncCount.{SyncCount}
use Rattle.undoing.specs.Latest.{count_of}
use Rattle.undoing.proofs.waits.Goals as goal

pub returns : goal.returns
returns c =
    let row = c.args.row in
    let larger : SyncCount → Bool = λ other. ltb c.args.count.0 other.0 in
    let four : length row ≡ thread_count = search rules in
    any_from_yields_List larger _ _ _ c.any.ensures.ran (YieldsList-from_slice row (cc)) (λ x b q k. search (rules, tests))
    ∙ any-list larger row (sync_count 0)
    ∙ ap (λ (count : ℕ). some_below count (λ thread. larger (count_of row thread))) four
