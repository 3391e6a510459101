-- `undoing::has_left` meets its contract.
use Prim.Native.Nat.{ℕ}
use mathlib.Core.Path.{◌≡◌, ap, ◌∙◌}
use mathlib.Core.Bool.{Bool}
use lib.Dec.{ltb}
use lib.ListN.{length}
use borrow.Author.Rules.{rules}
use borrow.Author.Tests.{tests}
use Rattle.std.proofs.lemmas.Iterator.{YieldsList-from_slice}
use Rattle.std.proofs.lemmas.Iterator.Search.{any_from_yields_List}
use Rattle.sizes.specs.Sizes.{thread_count}
use Rattle.answer.specs.Lists.{some_below}
use Rattle.answer.proofs.Searches.{any-list}
use Rattle.undoing.specs.Undo.{left_of}
use Rattle.undoing.proofs.has_left.Goals as goal

pub returns : goal.returns
returns c =
    let left = c.args.left in
    let some : ℕ → Bool = λ count. ltb 0 count in
    let four : length left ≡ thread_count = search rules in
    any_from_yields_List some _ _ _ c.any.ensures.ran (YieldsList-from_slice left (cc)) (λ x b q k. search (rules, tests))
    ∙ any-list some left 0
    ∙ ap (λ (count : ℕ). some_below count (λ thread. some (left_of left thread))) four
