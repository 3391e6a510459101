use Rattle.std.proofs.Common.{◌≡◌, rules, tests, position, ◌==◌, ◌∙◌, ap, unwrap_or, Option, ℕ, length}
use Rattle.std.proofs.lemmas.Iterator.Search.{position_from_yields_List}
use Rattle.std.proofs.lemmas.Iterator.{YieldsList-from_slice}
use Rattle.scan.proofs.FindLaws.{found_or_end}
use Rattle.scan.proofs.find.Goals as goal

pub returns-clause-value : goal.returns-clause-value
returns-clause-value c =
    let text = c.args.text.now in
    let found : c.position.result ≡ position (λ here. here == c.args.byte) text =
    position_from_yields_List _ _ _ _ c.position.ensures.ran (YieldsList-from_slice text cc) (λ x b q k. search (rules, tests)) in
    c.unwrap_or.ensures ∙ ap (λ (place : Option ℕ). unwrap_or place (length text)) found ∙ found_or_end c.args.byte text
