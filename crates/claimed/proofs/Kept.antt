-- The words of an order that are kept: all of them, or of more than can be marked so many that 26 shows.
use Prim.Native.Nat.{ℕ, zero, suc, ◌+◌, ◌≤◌, ◌<◌}
use mathlib.Core.Path.{◌≡◌, refl, sym, ap, ◌∙◌}
use mathlib.Core.Logic.{by_cases}
use mathlib.Core.List.{List, [], ◌∷◌, ◌++◌}
use native.Mathlib.Decide.{dec_le}
use native.Mathlib.Omega.{arith}
use lib.ListN.{length, set, take, length-append, length-set, length-take}
use Rattle.order.specs.Check.{most_words, check_of}
use Rattle.order.proofs.Outcomes.{too_many, refused-alike}
use Rattle.claimed.specs.Read.{kept_words}

pub record Kept (pairs : List ℕ) (count : ℕ) (words : List ℕ) : Type 0 where
  pub long : length pairs ≡ kept_words
  pub within : count ≤ kept_words
  pub all : count ≤ most_words → take count pairs ≡ words
  pub over : most_words < count → most_words < length words

pub kept-none : (pairs : List ℕ) → length pairs ≡ kept_words → Kept pairs 0 []
kept-none pairs long = record { long = long; within = omega arith; all = λ few. refl; over = λ many. absurd (omega arith) }

-- two words put after those that were taken
take_set_two : (pairs : List ℕ) (count a b : ℕ) → suc count < length pairs →
    take (suc (suc count)) (set (set pairs count a) (suc count) b) ≡ take count pairs ++ (a ∷ b ∷ [])
take_set_two [] count a b more = absurd (omega arith)
take_set_two (word ∷ []) count a b more = absurd (omega arith)
take_set_two (word ∷ next ∷ pairs) zero a b more = refl
take_set_two (word ∷ next ∷ pairs) (suc count) a b more =
    ap (λ (rest : List ℕ). word ∷ rest) (take_set_two (next ∷ pairs) count a b (omega arith))

module _ {pairs : List ℕ} {count : ℕ} {words : List ℕ} (kept : Kept pairs count words) (thread rank : ℕ) where
  longer : length (words ++ (thread ∷ rank ∷ [])) ≡ length words + 2
  longer = length-append words (thread ∷ rank ∷ [])

  -- a pair is put after the words so far
  pub kept_more : count ≤ most_words → Kept (set (set pairs count thread) (count + 1) rank) (count + 2) (words ++ (thread ∷ rank ∷ []))
  kept_more room =
      let one : count + 1 ≡ suc count = omega arith in
      let two : count + 2 ≡ suc (suc count) = omega arith in
      let same : take (count + 2) (set (set pairs count thread) (count + 1) rank) ≡ words ++ (thread ∷ rank ∷ []) =
      rw (one, two)
      (take_set_two pairs count thread rank (omega (arith, kept.long)) ∙
      ap (λ (start : List ℕ). start ++ (thread ∷ rank ∷ [])) (kept.all room)) in
      record {
        long =
            length-set (set pairs count thread) (count + 1) rank ∙ length-set pairs count thread ∙ kept.long;
        within = omega arith;
        all = λ few. same;
        over = λ many. omega (arith, longer, ap length (kept.all room), length-take count pairs, kept.long);
      }

  -- or left out
  pub kept_full : most_words < count → Kept pairs count (words ++ (thread ∷ rank ∷ []))
  kept_full full = record {
    long = kept.long;
    within = kept.within;
    all = λ few. absurd (omega arith);
    over = λ many. omega (arith, longer, kept.over full);
  }

-- either way the order is marked by the words that are kept
pub kept-checked : {pairs : List ℕ} {count : ℕ} {words : List ℕ} → Kept pairs count words → (image : List ℕ) →
    check_of image words ≡ check_of image (take count pairs)
kept-checked {pairs} {count} {words} kept image =
    by_cases
    (dec_le count most_words)
    (λ few. ap (check_of image) (sym (kept.all few)))
    (λ not-few.
    let many : most_words < count = omega arith in
    let long : most_words < length (take count pairs) = omega (arith, length-take count pairs, kept.long, kept.within) in
    refused-alike image words (take count pairs) (too_many (length words) (kept.over many))
    (too_many (length (take count pairs)) long))
