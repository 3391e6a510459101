-- `claimed::write_mark` meets its contract.
use Prim.Native.Nat.{ℕ}
use mathlib.Core.Path.{◌≡◌, ap, ◌∙◌}
use mathlib.Core.List.{List}
use Rattle.order.specs.Check.{check_of}
use Rattle.order.specs.declared.Checked.{Checked}
use Rattle.print.specs.Printed.{marked_text}
use Rattle.listing.proofs.RecoveredLaws.{cut_image}
use Rattle.claimed.specs.Verdict.{mark_text}
use Rattle.claimed.proofs.write_mark.Goals as goal
use Rattle.claimed.proofs.write_mark.Goals.{After-write_marked}

-- what is printed is the mark of the words against the machine's image
text-is : (c : After-write_marked)
    → let args = c.args in
    let checked = c.check-checked.result in
    marked_text checked.answer checked.place ≡ mark_text args.machine args.pairs.now
unfolding mark_text
text-is c =
    let args = c.args in
    let check = c.check-checked in
    ap (λ (checked : Checked). marked_text checked.answer checked.place)
    (check.ensures ∙
    ap (λ (image : List ℕ). check_of image args.pairs.now)
    (cut_image args.machine c.cut.ensures.image))

pub returns : goal.returns
returns c = rw (text-is (goal.at.returns c).After-write_marked) at c.write_marked.ensures
