-- `pair::has_later_acquire` meets its contract.
use Prim.Native.Nat.{ℕ}
use mathlib.Core.Path.{◌∙◌}
use mathlib.Core.Bool.{Bool, ◌&&◌}
use native.Mathlib.Omega.{arith}
use lib.Dec.{eqb, ltb}
use borrow.Author.Rules.{rules}
use borrow.Author.Tests.{tests}
use Rattle.std.proofs.lemmas.Iterator.{YieldsList-from_range}
use Rattle.std.proofs.lemmas.Iterator.Search.{any_from_yields_List}
use Rattle.answer.proofs.Searches.{any-below}
use Rattle.image.specs.Stored.{entry_kind, entry_place, entry_value}
use Rattle.image.specs.Reading.{log_in}
use Rattle.undoing.specs.Undo.{has_later_acquire}
use Rattle.pair.proofs.has_later_acquire.Goals as goal

pub returns : goal.returns
unfolding has_later_acquire
returns c =
    let a = c.args in
    let log = log_in a.image.words.now a.thread in
    let later : ℕ → Bool = λ index. eqb (entry_kind log index) 2 && eqb (entry_place log index) a.lock && ltb a.count (entry_value log index) in
    any_from_yields_List later _ _ _ c.any.ensures.ran (YieldsList-from_range 0 a.left a.left (cc) (omega arith))
    (λ x b q k. search (rules, tests))
    ∙ any-below a.left later
