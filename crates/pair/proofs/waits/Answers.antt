-- `pair::waits` meets its contract.
use Prim.Native.Nat.{ℕ}
use mathlib.Core.Path.{◌∙◌}
use mathlib.Core.Bool.{Bool}
use native.Mathlib.Omega.{arith}
use borrow.Author.Rules.{rules}
use borrow.Author.Tests.{tests}
use Rattle.std.proofs.lemmas.Iterator.{YieldsList-from_range}
use Rattle.std.proofs.lemmas.Iterator.Search.{any_from_yields_List}
use Rattle.sizes.specs.Sizes.{thread_count}
use Rattle.answer.proofs.Searches.{any-below}
use Rattle.image.specs.Reading.{log_in}
use Rattle.undoing.specs.Undo.{left_of, has_later_acquire}
use Rattle.pair.proofs.waits.Goals as goal

pub returns : goal.returns
returns c =
    let a = c.args in
    let later : ℕ → Bool = λ thread. has_later_acquire (log_in a.image.words.now thread) (left_of a.left thread) a.lock a.count in
    any_from_yields_List later _ _ _ c.any.ensures.ran (YieldsList-from_range 0 thread_count thread_count (cc) (omega arith))
    (λ x b q k. search (rules, tests))
    ∙ any-below thread_count later
