-- `image::HeadedImage::has_bad_entries` meets its contract.
use Prim.Native.Nat.{ℕ}
use mathlib.Core.Path.{◌≡◌, ap, ◌∙◌}
use mathlib.Core.Bool.{Bool}
use lib.ListN.{get_or}
use native.Mathlib.Omega.{arith}
use borrow.Author.Rules.{rules}
use borrow.Author.Tests.{tests}
use Rattle.std.proofs.lemmas.Iterator.{YieldsList-from_range}
use Rattle.std.proofs.lemmas.Iterator.Search.{any_from_yields_List}
use Rattle.sizes.specs.Sizes.{thread_count}
use Rattle.answer.specs.Lists.{some_below}
use Rattle.answer.proofs.Searches.{any-below, search_same}
use Rattle.image.specs.Tests.{has_bad_entry}
use Rattle.image.specs.Stored.{present_in}
use Rattle.image.specs.Reading.{log_in, entry_in, is_bad}
use Rattle.image.proofs.LogsRead.{count-present}
use Rattle.image.proofs.HeadedImage.has_bad_entries.Goals as goal

pub returns : goal.returns
unfolding has_bad_entry
returns c =
    let image = c.args.self.words.now in
    let among : ℕ → ℕ → Bool = λ count thread. some_below count (λ index. is_bad (entry_in (log_in image thread) index)) in
    let test : ℕ → Bool = λ thread. among (get_or c.args.present thread 0) thread in
    any_from_yields_List test _ _ _ c.any.ensures.ran (YieldsList-from_range 0 thread_count thread_count (cc) (omega arith))
    (λ x b q k. search (rules, tests))
    ∙ any-below thread_count test
    ∙ search_same thread_count _ _
    (λ thread inside.
    let count : get_or c.args.present thread 0 ≡ present_in (log_in image thread) = rw c.requires (count-present image thread inside) in
    ap (λ (count : ℕ). among count thread) count)
