-- `image::HeadedImage::has_bad_entry` meets its contract.
use Prim.Native.Nat.{ℕ}
use mathlib.Core.Path.{ap, ◌∙◌}
use mathlib.Core.Bool.{Bool}
use native.Mathlib.Omega.{arith}
use borrow.Author.Rules.{rules}
use borrow.Author.Tests.{tests}
use Rattle.std.proofs.lemmas.Iterator.{YieldsList-from_range}
use Rattle.std.proofs.lemmas.Iterator.Search.{any_from_yields_List}
use Rattle.answer.specs.Lists.{some_below}
use Rattle.answer.proofs.Searches.{any-below}
use Rattle.ring.specs.declared.Lsn.{Lsn}
use Rattle.image.specs.Stored.{StoredLog}
use Rattle.image.specs.Reading.{log_of, entry_in, is_bad}
use Rattle.image.proofs.LogsRead.{log-read}
use Rattle.image.proofs.HeadedImage.has_bad_entry.Goals as goal

pub returns : goal.returns
returns c =
    let a = c.args in
    let log = log_of c.stretch-stretch.result.now c.head-head.result.0 in
    let test : ℕ → Bool = λ index. is_bad (entry_in log index) in
    any_from_yields_List test _ _ _ c.any.ensures.ran (YieldsList-from_range 0 a.count a.count (cc) (omega arith))
    (λ x b q k. search (rules, tests))
    ∙ any-below a.count test
    ∙ ap (λ (log : StoredLog). some_below a.count (λ index. is_bad (entry_in log index)))
    (log-read a.self.words.now a.thread c.requires c.stretch-stretch.ensures (ap (λ (head : Lsn). head.0) c.head-head.ensures))
