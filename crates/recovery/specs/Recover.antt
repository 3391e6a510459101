-- Recovery's tests 21 to 24, and its outcome: the answer, and what the lent buffer for the cells then holds.
use Rattle.std.specs.Prelude.{Ok}
use Rattle.std.specs.Prelude.{ℕ, Bool, not, List, [], ◌∷◌, ◌++◌, length, eqb, ltb}
use Rattle.sizes.specs.Sizes.{thread_count}
use Rattle.answer.specs.Lists.{some_below}
use Rattle.answer.specs.Refusals.{Test, ◌⇒◌, unless, Outcome}
use Rattle.answer.specs.declared.Refusal.TheVariants.{WrongLength, Cyclic}
use Rattle.reader.specs.Stretch.{heads_at}
use Rattle.image.specs.Tests.{image_tests}
use Rattle.undoing.specs.Undo.{Undo, left_of, undone}

-- "Entries left with none to take"
unfoldable pub has_left : Undo → Bool
has_left undo = some_below thread_count (λ thread. ltb 0 (left_of undo.left thread))

-- "Recovery tests 21 to 24 in order.": 21 for the lent buffer too, and 24 last
unfoldable pub recover_tests : List ℕ → List ℕ → List Test
recover_tests image buffer =
    (not (eqb (length buffer) heads_at) ⇒ WrongLength) ∷ (image_tests image ++ ((has_left (undone image) ⇒ Cyclic) ∷ []))

-- recovery over a lent image and a lent buffer for the cells; a refusal leaves the buffer as it was
unfoldable pub recover_of : List ℕ → List ℕ → Outcome
recover_of image buffer =
    unless
    (λ answer. record { answer = answer; buffer = buffer })
    (recover_tests image buffer)
    (record { answer = Ok 0; buffer = (undone image).cells })
