-- Recovery's outcome, by the first of its tests that holds.
use Prim.Native.Nat.{ℕ}
use mathlib.Core.Path.{◌≡◌, sym, ◌∙◌}
use mathlib.Core.Bool.{true, false}
use mathlib.Core.List.{List, [], ◌∷◌, ◌++◌}
use lib.ListN.{length}
use borrow.Author.Tests.{eq-eqb, ne_eqb}
use Rattle.std.specs.Prelude.{Ok, Err}
use Rattle.answer.specs.Answer.{Answer}
use Rattle.answer.specs.Refusals.{Test, ◌⇒◌, unless, first_refusal, Outcome}
use Rattle.answer.specs.declared.Refusal.{Refusal}
use Rattle.answer.specs.declared.Refusal.TheVariants.{WrongLength, Cyclic}
use Rattle.answer.proofs.RefusalLaws.{stops, goes_on}
use Rattle.reader.specs.Stretch.{heads_at}
use Rattle.image.specs.Tests.{image_tests}
use Rattle.undoing.specs.Undo.{undone}
use Rattle.recovery.specs.Recover.{has_left, recover_tests, recover_of}

module _ (image buffer : List ℕ) where
  -- the answer, and the buffer as it was
  abbrev refused : Answer → Outcome
  refused answer = record { answer = answer; buffer = buffer }

  -- acceptance, and the cells that undoing leaves
  abbrev accepted : Outcome
  accepted = record { answer = Ok 0; buffer = (undone image).cells }

  -- test 24, and what comes of it
  abbrev last_test : List Test
  last_test = (has_left (undone image) ⇒ Cyclic) ∷ []

  pub wrong-buffer : (length buffer ≡ heads_at → ⊥) → refused (Err WrongLength) ≡ recover_of image buffer
  unfolding recover_of recover_tests unless
  wrong-buffer other = rw (ne_eqb (length buffer) heads_at other)

  module _ (cells : length buffer ≡ heads_at) where
    -- where the buffer has its length the image's tests come first
    image-first : recover_of image buffer ≡ unless refused (image_tests image ++ last_test) accepted
    unfolding recover_of recover_tests unless
    image-first = rw (eq-eqb (length buffer) heads_at cells)

    pub bad-image : {refusal : Refusal} → first_refusal (image_tests image) ≡ Err refusal → refused (Err refusal) ≡ recover_of image buffer
    bad-image is_refused = sym (image-first ∙ stops refused accepted last_test (image_tests image) is_refused)

    module _ {given : ℕ} (passes : first_refusal (image_tests image) ≡ Ok given) where
      decided : recover_of image buffer ≡ unless refused last_test accepted
      decided = image-first ∙ goes_on refused accepted last_test (image_tests image) passes

      pub cyclic : has_left (undone image) ≡ true → refused (Err Cyclic) ≡ recover_of image buffer
      unfolding unless
      cyclic left = sym (decided ∙ rw left)

      pub recovered : has_left (undone image) ≡ false → accepted ≡ recover_of image buffer
      unfolding unless
      recovered none = sym (decided ∙ rw none)
