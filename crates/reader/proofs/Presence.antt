-- Which entries are present, by any test of "this LSN is found": where the count of them stops and goes on, and what all of them are.
use Prim.Native.Nat.{ℕ, zero, suc, ◌+◌, ◌-◌, ◌≤◌, ◌<◌}
use mathlib.Core.Path.{◌≡◌, refl, ap, ◌∙◌}
use mathlib.Core.Bool.{Bool, true, false, cond, ◌&&◌}
use mathlib.Core.Logic.{by_cases, ◌⊎◌, inl, inr, ⊎_elim}
use native.Mathlib.Decide.{dec_le}
use native.Mathlib.Nat.{add-zero}
use native.Mathlib.Numerals.{add-one}
use native.Mathlib.Omega.{arith}
use lib.Dec.{leb}
use lib.ListN.{take}
use Rattle.std.specs.List.{prefix_len, range_with_len}
use borrow.Author.Tests.{le-leb, lt-leb}
use Rattle.ring.specs.Ring.{last_lsn}
use Rattle.reader.specs.Stretch.{present_from}

and_false : (b : Bool) → (b && false) ≡ false
and_false true = refl
and_false false = refl

either : (b : Bool) → (b ≡ true) ⊎ (b ≡ false)
either true = inl refl
either false = inr refl

shift : (number i : ℕ) → suc number + i ≡ number + suc i
shift number i = omega arith

module _ (found : ℕ → Bool) where
  -- no LSN over the last one is present, nor one from the first missing one on
  pub present-stops-past-last : (number count : ℕ) → last_lsn < number → present_from found number count ≡ 0
  unfolding present_from
  present-stops-past-last number zero past = refl
  present-stops-past-last number (suc count) past = rw (lt-leb number last_lsn past)

  pub present-stops-at-missing : (number count : ℕ) → found number ≡ false → present_from found number count ≡ 0
  unfolding present_from
  present-stops-at-missing number zero missing = refl
  present-stops-at-missing number (suc count) missing = rw (missing, and_false (leb number last_lsn))

  -- an LSN that is found counts, and the next one is looked for
  pub present-goes-on : (number count : ℕ) → number ≤ last_lsn → found number ≡ true
      → present_from found number (suc count) ≡ suc (present_from found (suc number) count)
  unfolding present_from
  present-goes-on number count low here = rw (le-leb number last_lsn low, here)

  -- an LSN is found, or nothing is present from it on
  present-or-not : {C : Type 0} (number : ℕ) → (number ≤ last_lsn → found number ≡ true → C)
      → (((count : ℕ) → present_from found number count ≡ 0) → C) → C
  present-or-not number here stops =
      by_cases (dec_le number last_lsn)
      (λ low. ⊎_elim (here low) (λ missing. stops (λ count. present-stops-at-missing number count missing)) (either (found number)))
      (λ high. stops (λ count. present-stops-past-last number count (omega arith)))

  -- of so many LSNs at most all are present
  pub present-at-most : (number count : ℕ) → present_from found number count ≤ count
  unfolding present_from
  present-at-most number zero = omega arith
  present-at-most number (suc count) =
      present-or-not number
      (λ low here. omega (arith, present-goes-on number count low here, present-at-most (suc number) count))
      (λ stops. omega (arith, stops (suc count)))

  -- what holds of an LSN, and of those after it, holds of each from it on
  one_on : (number i : ℕ) → (found number ≡ true) × (number ≤ last_lsn)
      → ((j : ℕ) → i ≡ suc j → (found (suc number + j) ≡ true) × (suc number + j ≤ last_lsn))
      → (found (number + i) ≡ true) × (number + i ≤ last_lsn)
  one_on number zero first later = rw add-zero first
  one_on number (suc i) first later = rw (shift number i) at (later i refl)

  -- every present entry is found, and none has an LSN over the last one
  pub present-found : (number count i : ℕ) → i < present_from found number count
      → (found (number + i) ≡ true) × (number + i ≤ last_lsn)
  unfolding present_from
  present-found number zero i below = absurd (omega arith)
  present-found number (suc count) i below =
      present-or-not number
      (λ low here. one_on number i (here, low)
      (λ j is. present-found (suc number) count j (omega (arith, is, below, present-goes-on number count low here))))
      (λ stops. absurd (omega (arith, below, stops (suc count))))

  -- entries that are found one after the other are present
  pub present-reaches : (number count n : ℕ) → n ≤ count → number + n ≤ last_lsn + 1
      → ((i : ℕ) → i < n → found (number + i) ≡ true) → n ≤ present_from found number count
  present-reaches number count zero few low all = omega arith
  present-reaches number zero (suc n) few low all = absurd (omega arith)
  present-reaches number (suc count) (suc n) few low all =
      let here : found number ≡ true = rw add-zero at (all 0 (omega arith)) in
      let rest : (i : ℕ) → i < n → found (suc number + i) ≡ true = λ i below. rw (shift number i) (all (suc i) (omega arith)) in
      omega (arith, present-goes-on number count (omega arith) here, present-reaches (suc number) count n (omega arith) (omega arith) rest)

  -- of so many LSNs at most, up to the last one there is, those from the front on that are found
  pub present-counts : (number count : ℕ) →
      prefix_len found (take count (range_with_len number (last_lsn + 1 - number))) ≡ present_from found number count
  unfolding present_from
  present-counts number zero = refl
  present-counts number (suc count) =
      let later : prefix_len found (take count (range_with_len (number + 1) (last_lsn + 1 - (number + 1)))) ≡ present_from found (suc number) count =
      present-counts (number + 1) count ∙ ap (λ (next : ℕ). present_from found next count) (add-one number) in
      by_cases (dec_le number last_lsn)
      (λ low.
      let more : last_lsn + 1 - number ≡ suc (last_lsn + 1 - (number + 1)) = omega arith in
      rw (more, le-leb number last_lsn low) (ap (λ (rest : ℕ). cond (found number) rest 0) (omega (arith, later))))
      (λ high.
      let none : last_lsn + 1 - number ≡ 0 = omega arith in
      rw (none, lt-leb number last_lsn (omega arith)))
