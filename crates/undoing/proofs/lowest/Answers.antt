-- `undoing::lowest` meets its contract.
use Prim.Native.Nat.{ℕ}
use mathlib.Core.Path.{◌≡◌}
use mathlib.Core.Bool.{Bool, true, false}
use borrow.Author.Rules.{rules}
use borrow.Author.Tests.{tests}
use Rattle.std.proofs.lemmas.Iterator.{first_from_Range}
use Rattle.image.specs.Reading.{log_in}
use Rattle.undoing.specs.Undo.{left_of}
use Rattle.undoing.specs.Latest.{may_take_last}
use Rattle.undoing.proofs.Asked.{lowest-is}
use Rattle.undoing.proofs.lowest.Goals as goal

pub returns : goal.returns
returns c =
    let a = c.args in
    let may : ℕ → Bool = λ thread. may_take_last (log_in a.image.words.now thread) (left_of a.left.now thread) a.latest.now in
    lowest-is may c.find.result
    (first_from_Range _ _ _ c.find.result (λ thread. may thread ≡ true) (λ thread. may thread ≡ false) c.find.ensures.ran
    (λ x q k. search (rules, tests)) (λ x q k. search (rules, tests)))
