-- What a list is answered, by the first of the tests that holds.
use Prim.Native.Nat.{ℕ, ◌<◌}
use mathlib.Core.Path.{◌≡◌, refl, sym, ◌∙◌}
use mathlib.Core.Bool.{true, false, cond}
use mathlib.Core.List.{List, [], ◌∷◌}
use lib.ListN.{length}
use borrow.Author.Tests.{lt-ltb}
use Rattle.std.specs.Prelude.{Ok, Err, Option}
use Rattle.answer.specs.Answer.{Answer}
use Rattle.answer.specs.Refusals.{Test, ◌⇒◌, unless, first_refusal}
use Rattle.answer.specs.declared.Refusal.{Refusal}
use Rattle.answer.specs.declared.Refusal.TheVariants.{NotPairs}
use Rattle.answer.proofs.RefusalLaws.{stops, goes_on}
use Rattle.image.specs.Stored.{stored_logs, present_entries}
use Rattle.image.specs.Tests.{image_tests}
use Rattle.order.specs.Check.{pairs_of, bad_place, refused, marked_by, most_words, are_not_pairs, check_tests, check_of}

module _ (image words : List ℕ) where
  -- the place of the list's first bad pair
  abbrev pub found : Option ℕ
  found = bad_place (stored_logs image) (present_entries image) 0 (pairs_of words)

  -- test 26, and what comes of it
  abbrev list_test : List Test
  list_test = (are_not_pairs (length words) ⇒ NotPairs) ∷ []

  pub bad-image : {refusal : Refusal} → first_refusal (image_tests image) ≡ Err refusal → refused (Err refusal) ≡ check_of image words
  unfolding check_of check_tests
  bad-image is_refused = sym (stops refused (marked_by found) list_test (image_tests image) is_refused)

  module _ {given : ℕ} (tested : first_refusal (image_tests image) ≡ Ok given) where
    -- whatever comes of the tests, those of the image come first
    list-next : {A : Type 0} (refuse : Answer → A) (outcome : A) →
        unless refuse (check_tests image words) outcome ≡ cond (are_not_pairs (length words)) (refuse (Err NotPairs)) outcome
    unfolding check_tests unless
    list-next refuse outcome = goes_on refuse outcome list_test (image_tests image) tested

    pub no_pairs : are_not_pairs (length words) ≡ true → refused (Err NotPairs) ≡ check_of image words
    unfolding check_of
    no_pairs bad = sym (list-next refused (marked_by found) ∙ rw bad)

    module _ (are_pairs : are_not_pairs (length words) ≡ false) where
      pub is-marked : marked_by found ≡ check_of image words
      unfolding check_of
      is-marked = sym (list-next refused (marked_by found) ∙ rw are_pairs)

      pub passes : first_refusal (check_tests image words) ≡ Ok 0
      unfolding first_refusal
      passes = list-next (λ answer. answer) (Ok 0) ∙ rw are_pairs

-- more words than a list may have are none
pub too_many : (count : ℕ) → most_words < count → are_not_pairs count ≡ true
unfolding are_not_pairs
too_many count more = rw (lt-ltb most_words count more)

-- two lists that 26 refuses are answered alike
pub refused-alike : (image one other : List ℕ) → are_not_pairs (length one) ≡ true → are_not_pairs (length other) ≡ true →
    check_of image one ≡ check_of image other
refused-alike image one other one_bad other_bad = by_answer (first_refusal (image_tests image)) refl
  where
    by_answer : (answer : Answer) → first_refusal (image_tests image) ≡ answer → check_of image one ≡ check_of image other
    by_answer (Ok given) tested = sym (no_pairs image one tested one_bad) ∙ no_pairs image other tested other_bad
    by_answer (Err refusal) tested = sym (bad-image image one tested) ∙ bad-image image other tested
