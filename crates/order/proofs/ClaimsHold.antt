-- What is claimed of the checker holds: a list is accepted exactly where it is an order, there is one wherever recovery accepts, and a
-- refused one is answered with the place of its first bad pair.
use Prim.Native.Nat.{ℕ, ◌%◌, ◌≤◌}
use mathlib.Core.Path.{◌≡◌, refl, sym, ap, ◌∙◌, subst⁻¹}
use mathlib.Core.Bool.{Bool, true, false}
use mathlib.Core.Logic.{by_cases}
use mathlib.Core.List.{List, [], ◌∷◌}
use Rattle.std.specs.Prelude.{Option, None, Some, Ok, Err}
use native.Mathlib.Decide.{ℕ_discrete}
use native.Mathlib.Omega.{arith}
use lib.ListN.{length}
use borrow.Author.Tests.{ne_eqb, le-ltb}
use Rattle.answer.specs.Refusals.{◌⇒◌, unless, first_refusal, Outcome}
use Rattle.answer.specs.Answer.{Answer}
use Rattle.answer.specs.declared.Refusal.TheVariants.{WrongLength, BadHead, BadEntry, NotPairs}
use Rattle.answer.proofs.RefusalLaws.{unless-cases, none-stops, none-holds, never-ok}
use Rattle.reader.specs.Stretch.{heads_at}
use Rattle.image.specs.Stored.{stored_logs, present_entries}
use Rattle.image.specs.Tests.{image_tests}
use Rattle.image.proofs.LogsRead.{counts-long}
use Rattle.recovery.specs.Recover.{recover_of}
use Rattle.undoing.specs.Undo.{undo_start}
use Rattle.recovery.proofs.Outcomes.{wrong-buffer, bad-image as bad-recovered}
use Rattle.orders.specs.Orders.{Name, IsOrder}
use Rattle.orders.proofs.OrderLaws.{order-takes, takes-order, order-few}
use Rattle.orders.proofs.Untangled.{few-present, untangled}
use Rattle.order.specs.Check.{pairs_of, refused, accepted, not_an_order, marked_by, are_not_pairs, most_words, check_tests, check_of}
use Rattle.order.specs.Claims.{Accepts, HasAList, FirstBad}
use Rattle.order.specs.declared.Checked.{Checked}
use Rattle.order.proofs.Pairs.{words_of, pairs_words, length_words}
use Rattle.order.proofs.Marked.{none-takes, takes_none, bad-at}
use Rattle.order.proofs.Outcomes.{found, passes}

module _ (image words : List ℕ) where
  -- a list without a bad place is an order, and an order has none
  none-order : found image words ≡ None → IsOrder image (pairs_of words)
  unfolding undo_start
  none-order is_none =
      let taken = none-takes (stored_logs image) (pairs_of words) (undo_start image) 0 is_none in
      takes-order taken.1 (counts-long image) taken.2

  order-none : IsOrder image (pairs_of words) → found image words ≡ None
  unfolding undo_start
  order-none is_order =
      let taken = order-takes (stored_logs image) (pairs_of words) (undo_start image) (counts-long image) is_order in
      takes_none (stored_logs image) taken.1 taken.2 0

  marked-none : (place : Option ℕ) → (marked_by place).answer ≡ Ok 0 → place ≡ None
  marked-none None is_accepted = refl
  marked-none (Some place) is_accepted = never-ok refl is_accepted

  accepted-order : (check_of image words).answer ≡ Ok 0 → IsOrder image (pairs_of words)
  unfolding check_of
  accepted-order =
      unless-cases
      (λ (checked : Checked). checked.answer ≡ Ok 0 → IsOrder image (pairs_of words))
      refused
      (check_tests image words)
      (marked_by (found image words))
      (λ refusal is_accepted. never-ok refl is_accepted)
      (λ fails is_accepted. none-order (marked-none (found image words) is_accepted))

  order-accepted : first_refusal (check_tests image words) ≡ Ok 0 → IsOrder image (pairs_of words) → check_of image words ≡ accepted
  unfolding check_of first_refusal
  order-accepted none_holds is_order =
      (none-stops refused (marked_by (found image words)) (λ answer. answer) (Ok 0) (λ answer. answer) (λ refusal. refl)
      (check_tests image words) none_holds).0
      ∙ ap marked_by (order-none is_order)

-- "It accepts exactly the lists that name each present entry once and keep L8's order."
pub accepts : Accepts
accepts image words = record { is_order = accepted-order image words; is_accepted = order-accepted image words }

-- ---- a list for every image that recovery accepts

module _ (image buffer : List ℕ) (is_accepted : (recover_of image buffer).answer ≡ Ok 0) where
  abbrev answer_of : Outcome → Answer
  answer_of outcome = outcome.answer

  buffer-fits : length buffer ≡ heads_at
  buffer-fits =
      by_cases
      (ℕ_discrete (length buffer) heads_at)
      (λ same. same)
      (λ other. never-ok (sym (ap answer_of (wrong-buffer image buffer other))) is_accepted)

  image-passed : first_refusal (image_tests image) ≡ Ok 0
  image-passed = by_answer (first_refusal (image_tests image)) refl
    where
      by_answer : (answer : Answer) → first_refusal (image_tests image) ≡ answer → first_refusal (image_tests image) ≡ Ok 0
      by_answer (Ok given) passes = (none-holds (image_tests image) passes).0
      by_answer (Err refusal) refuses = never-ok (sym (ap answer_of (bad-recovered image buffer buffer-fits refuses))) is_accepted

  -- the order that the image has, as words
  module _ (order : List Name) (is_order : IsOrder image order) where
    few_words : length (words_of order) ≤ most_words
    few_words =
        let few = order-few (stored_logs image) (present_entries image) order (counts-long image) (few-present image) is_order in
        omega (arith, length_words order)

    are-pairs : are_not_pairs (length (words_of order)) ≡ false
    unfolding are_not_pairs
    are-pairs =
        let even : length (words_of order) % 2 ≡ 0 = omega (arith, length_words order) in
        rw (le-ltb most_words (length (words_of order)) few_words, ne_eqb (length (words_of order) % 2) 1 (λ odd. omega arith))

    words-accepted : check_of image (words_of order) ≡ accepted
    words-accepted =
        order-accepted image (words_of order) (passes image (words_of order) image-passed are-pairs)
        (subst⁻¹ (IsOrder image) (pairs_words order) is_order)

-- "Every image recovery accepts has a list that the checker accepts."
pub has_a_list : HasAList
has_a_list image buffer is_accepted =
    let passes = image-passed image buffer is_accepted in
    let ordered = (untangled image buffer passes (buffer-fits image buffer is_accepted)).ordered is_accepted in (
      words_of ordered.0,
      few_words image buffer is_accepted ordered.0 ordered.1,
      words-accepted image buffer is_accepted ordered.0 ordered.1,
    )

-- ---- the place of a refused list

-- where the answer is 27 no test held
not_tested : (length' head entry pairs : Bool) (outcome : Checked) (place : ℕ) →
    unless refused ((length' ⇒ WrongLength) ∷ (head ⇒ BadHead) ∷ (entry ⇒ BadEntry) ∷ (pairs ⇒ NotPairs) ∷ []) outcome ≡ not_an_order place →
    outcome ≡ not_an_order place
unfolding unless
not_tested true head entry pairs outcome place is = let same = ap (λ (c : Checked). c.answer) is in absurd (cc)
not_tested false true entry pairs outcome place is = let same = ap (λ (c : Checked). c.answer) is in absurd (cc)
not_tested false false true pairs outcome place is = let same = ap (λ (c : Checked). c.answer) is in absurd (cc)
not_tested false false false true outcome place is = let same = ap (λ (c : Checked). c.answer) is in absurd (cc)
not_tested false false false false outcome place is = is

marked-some : (place : Option ℕ) (bad : ℕ) → marked_by place ≡ not_an_order bad → place ≡ Some bad
marked-some None bad is = let same = ap (λ (c : Checked). c.answer) is in absurd (cc)
marked-some (Some place) bad is = ap (λ (c : Checked). Some c.place) is

-- "A refused list is answered with the place, from 0, of its first bad pair, or the count of pairs where entries are missing"
pub first-bad : FirstBad
unfolding check_of check_tests image_tests
first-bad image words place is =
    bad-at (stored_logs image) (pairs_of words) (present_entries image) place
    (marked-some (found image words) place (not_tested _ _ _ _ (marked_by (found image words)) place is))
