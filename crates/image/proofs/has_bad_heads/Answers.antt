-- `image::has_bad_heads` meets its contract.
use Prim.Native.Nat.{ℕ}
use mathlib.Core.Path.{◌∙◌}
use mathlib.Core.Bool.{Bool}
use mathlib.Core.List.{[]}
use lib.ListN.{take, drop}
use borrow.Author.Rules.{rules}
use borrow.Author.Tests.{tests}
use Rattle.std.proofs.lemmas.Iterator.{YieldsList-from_slice}
use Rattle.std.proofs.lemmas.Iterator.Search.{any_from_yields_List}
use Rattle.image.specs.Tests.{is_bad_head}
use Rattle.image.specs.Reading.{log_of}
use Rattle.image.proofs.LogsRead.{heads-searched}
use Rattle.image.proofs.has_bad_heads.Goals as goal

pub returns : goal.returns
returns c =
    let heads = take 4 (drop 128 c.args.image.now) in
    let test : ℕ → Bool = λ head. is_bad_head (log_of [] head) in
    any_from_yields_List test _ _ _ c.any.ensures.ran (YieldsList-from_slice heads (cc)) (λ x b q k. search (rules, tests))
    ∙ heads-searched c.args.image.now c.requires
