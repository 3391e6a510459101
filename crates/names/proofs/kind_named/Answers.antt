-- The place of the name among the table's words, as the closure's calls found it, gives the definition's number.
use Rattle.std.proofs.Common.{rules, tests, ◌≡◌, ◌+◌, option_map, ◌∙◌, refl}
use Rattle.std.proofs.lemmas.Iterator.Search.{position_from_yields_List}
use Rattle.std.proofs.lemmas.Iterator.{YieldsList-from_slice}
use Rattle.names.specs.Text.{same_text, ascii}
use Rattle.names.specs.Names.{names, kind_named}
use Rattle.names.proofs.NameLaws.{kind_at}
use Rattle.names.proofs.kind_named.Goals as goal

pub returns : goal.returns
unfolding names ascii kind_named
returns c =
    let text = c.args.name.now in
    let found =
    position_from_yields_List (λ word. same_text text word.now) _ _ c.position.result c.position.ensures.ran
    (YieldsList-from_slice _ refl) (λ x b q k. search (rules, tests)) in
    let numbered : c.map.result ≡ option_map (λ at. at + 1) c.position.result = search (rules, tests) in
    numbered ∙ kind_at text c.iter.ensures.rest found
