-- `image::HeadedImage::present_entries` meets its contract.
use Prim.Native.Nat.{ℕ}
use mathlib.Core.Path.{◌≡◌, sym, refl, ◌∙◌}
use lib.ListN.{get_or}
use borrow.Author.Rules.{rules}
use Rattle.std.proofs.lemmas.List.FromFn.{fill_by_all}
use Rattle.sizes.specs.Sizes.{thread_count}
use Rattle.image.specs.Stored.{present_in, present_entries}
use Rattle.image.specs.Reading.{log_in}
use Rattle.image.proofs.LogsRead.{counts-long, count-present}
use Rattle.image.proofs.Made.{made-list}
use Rattle.image.proofs.HeadedImage.present_entries.Goals as goal

pub returns : goal.returns
returns c =
    let image = c.args.self.words.now in
    let count : ℕ → ℕ = λ thread. get_or (present_entries image) thread 0 in
    made-list count
    (λ thread made next inside called.
    let given : made ≡ present_in (log_in image thread) = search rules in
    (search rules, given ∙ sym (count-present image thread inside)))
    0 c.from_fn.ensures.items
    ∙ sym (fill_by_all count (present_entries image) thread_count 0 (counts-long image) (λ thread inside. refl))
