-- Rows of the table of kinds by the kind's number: what the tests of an eviction's input are, and which numbers are those of a kind.
use Rattle.std.specs.Prelude.{Err}
use Prim.Native.Nat.{ℕ, ◌+◌, ◌≤◌, ◌<◌}
use native.Mathlib.Decide.{dec_lt, ℕ_discrete}
use native.Mathlib.Nat.{le_antisymm}
use native.Mathlib.Omega.{arith}
use mathlib.Core.Path.{◌≡◌, ap, ◌∙◌}
use mathlib.Core.Logic.{◌⊎◌, inl, inr, by_cases, ⊎_elim}
use mathlib.Core.Bool.{false, not}
use mathlib.Core.List.{◌++◌}
use lib.Dec.{eqb, leb}
use borrow.Author.Tests.{ne_eqb}
use Rattle.sizes.specs.Sizes.{entry_words}
use Rattle.answer.specs.Answer.{number_of}
use Rattle.answer.specs.Refusals.{first_refusal}
use Rattle.answer.specs.declared.Refusal.TheVariants.{NoSuchKind}
use Rattle.ring.specs.Ring.{slot_count}
use Rattle.kinds.specs.Kinds.{counted, kind_of, field_tests, count_tests, input_tests, input_answer}
use Rattle.kinds.proofs.Inputs.{not_below}

-- the bound of a number that is at least another one, and is not that one
above : (number least : ℕ) → least ≤ number → (number ≡ least → ⊥) → least + 1 ≤ number
above number least at_least other = omega arith

-- the number of no kind: below 1, above 14, or 11
abbrev pub Unknown : ℕ → Type 0
Unknown number = (number < 1) ⊎ ((number ≡ 11) ⊎ (14 < number))

module _ (thread place value : ℕ) where
  -- the row of EVICTLOG: its place is a slot, and its value is 0
  pub slot_row : (number : ℕ) → number ≡ 12 →
      first_refusal (field_tests thread (leb slot_count place) (not (eqb value 0))) ≡ input_answer (kind_of number) thread place value
  unfolding kind_of input_tests
  slot_row number is = rw (is, not_below slot_count place)

  -- the row of EVICTWORDS: its place is a slot, and its value counts words
  pub words_row : (number : ℕ) → number ≡ 14 →
      first_refusal (field_tests thread (leb slot_count place) false ++ count_tests (counted entry_words) value) ≡
      input_answer (kind_of number) thread place value
  unfolding kind_of input_tests
  words_row number is = rw (is, not_below slot_count place)

  -- a number that no kind has is in no row
  pub no_row : (number : ℕ) → Unknown number → Err NoSuchKind ≡ input_answer (kind_of number) thread place value
  unfolding kind_of
  no_row number unknown =
      ⊎_elim
      (λ low. let is : number ≡ 0 = omega arith in rw is)
      (⊎_elim
      (λ is. rw is)
      (λ high.
      let other : (kind : ℕ) → kind ≤ 14 → eqb number kind ≡ false = λ kind known. ne_eqb number kind (omega arith) in
      rw (
        other 1 (omega arith),
        other 2 (omega arith),
        other 3 (omega arith),
        other 4 (omega arith),
        other 5 (omega arith),
        other 6 (omega arith),
        other 7 (omega arith),
        other 8 (omega arith),
        other 9 (omega arith),
        other 10 (omega arith),
        other 12 (omega arith),
        other 13 (omega arith),
        other 14 (omega arith),
      )))
      unknown

  -- a number past PRUNE's row that is not one of the three evictions' is in no row
  pub no-later-row : (number : ℕ) → 11 ≤ number → (number ≡ 12 → ⊥) → (number ≡ 13 → ⊥) → (number ≡ 14 → ⊥) →
      Err NoSuchKind ≡ input_answer (kind_of number) thread place value
  no-later-row number at_least not_slot not_cell not_words =
      by_cases (ℕ_discrete number 11)
      (λ is. no_row number (inr (inl is)))
      (λ other.
      let past12 = above number 12 (above number 11 at_least other) not_slot in
      no_row number (inr (inr (above number 14 (above number 13 past12 not_cell) not_words))))

  -- the number of an accepted kind is 1 to 14, and not 11
  pub known : (number : ℕ) → number_of (input_answer (kind_of number) thread place value) ≡ 0 →
      (1 ≤ number) × (number ≡ 11 → ⊥) × (number ≤ 14)
  known number is_accepted = (
    by_cases (dec_lt number 1) (λ low. absurd (outside (inl low))) (λ one. omega arith),
    (λ is. outside (inr (inl is))),
    by_cases (dec_lt 14 number) (λ high. absurd (outside (inr (inr high)))) (λ within. omega arith),
  )
    where
      outside : Unknown number → ⊥
      outside unknown = let never : ◌≡◌ {A = ℕ} 1 0 = ap number_of (no_row number unknown) ∙ is_accepted in omega arith

  -- an accepted kind that is none of the first twelve is EVICTWORDS
  pub last_kind : (number : ℕ) → number_of (input_answer (kind_of number) thread place value) ≡ 0 →
      (number ≡ 1 → ⊥) → (number ≡ 2 → ⊥) → (number ≡ 3 → ⊥) → (number ≡ 4 → ⊥) → (number ≡ 5 → ⊥) → (number ≡ 6 → ⊥) →
      (number ≡ 7 → ⊥) → (number ≡ 8 → ⊥) → (number ≡ 9 → ⊥) → (number ≡ 10 → ⊥) → (number ≡ 12 → ⊥) → (number ≡ 13 → ⊥) → number ≡ 14
  last_kind number is_accepted not1 not2 not3 not4 not5 not6 not7 not8 not9 not10 not12 not13 =
      let is_known = known number is_accepted in
      let past3 = above number 3 (above number 2 (above number 1 is_known.0 not1) not2) not3 in
      let past6 = above number 6 (above number 5 (above number 4 past3 not4) not5) not6 in
      let past9 = above number 9 (above number 8 (above number 7 past6 not7) not8) not9 in
      let past12 = above number 12 (above number 11 (above number 10 past9 not10) is_known.1) not12 in
      le_antisymm is_known.2 (above number 13 past12 not13)
