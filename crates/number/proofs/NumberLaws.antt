-- Laws of the number that a text is, one digit at a time from the front.
use Prim.Native.Nat.{ℕ, ◌+◌, ◌-◌, ◌*◌, ◌^◌, ◌≤◌, ◌<◌}
use mathlib.Core.Path.{◌≡◌, refl}
use mathlib.Core.Bool.{Bool, true, false, cond, ◌&&◌}
use mathlib.Core.List.{List, [], ◌∷◌}
use native.Mathlib.Omega.{arith}
use borrow.Author.Tests.{lt-ltb}
use lib.Dec.{eqb, ltb}
use lib.ListN.{length, get_or, drop, drop_of_length-le}
use Rattle.std.proofs.lemmas.Bool.Decides.{nat_tests}
use Rattle.std.proofs.lemmas.List.{drop_more}
use Rattle.std.specs.Prelude.{Some, None}
use Rattle.number.specs.Decimal.{digits_after, number_in, is_digit}

-- an empty text is no number
pub no_digits : (text : List ℕ) → length text ≡ 0 → number_in text ≡ None
unfolding number_in
no_digits [] empty = refl
no_digits (byte ∷ text) empty = absurd (omega arith)

-- a text of more than one byte that begins with "0" is no number, and any other is read digit by digit
pub number_starts : (text : List ℕ) → 0 < length text
    → number_in text ≡ cond (eqb (get_or text 0 0) 48 && ltb 1 (length text)) None (digits_after 0 text)
unfolding number_in
number_starts [] some = absurd (omega arith)
number_starts (byte ∷ []) some = by_byte (eqb byte 48)
  where
    by_byte : (zero_leads : Bool) → digits_after 0 (byte ∷ []) ≡ cond (zero_leads && false) None (digits_after 0 (byte ∷ []))
    by_byte true = refl
    by_byte false = refl
number_starts (first ∷ second ∷ text) some = rw (lt-ltb 1 (length (first ∷ second ∷ text)) (omega arith)) (by_byte (eqb first 48))
  where
    by_byte : (zero_leads : Bool) → cond zero_leads None (digits_after 0 (first ∷ second ∷ text))
        ≡ cond (zero_leads && true) None (digits_after 0 (first ∷ second ∷ text))
    by_byte true = refl
    by_byte false = refl

-- one more byte is read: it goes on with the number, or ends it
pub digits_on : (number : ℕ) (text : List ℕ) (i : ℕ) → i < length text → digits_after number (drop i text)
    ≡ cond (is_digit (get_or text i 0) && ltb (number * 10 + (get_or text i 0 - 48)) (2 ^ 64))
    (digits_after (number * 10 + (get_or text i 0 - 48)) (drop (i + 1) text)) None
unfolding digits_after
digits_on number text i within = rw (drop_more text i 0 within)

-- where no digit is left, the number is the one read so far
pub digits_end : (number : ℕ) (text : List ℕ) (i : ℕ) → length text ≤ i → digits_after number (drop i text) ≡ Some number
unfolding digits_after
digits_end number text i past = rw (drop_of_length-le text past)

-- what is read of a text, from its start to its end
pub ruleset reading = (no_digits, number_starts, digits_on, digits_end, nat_tests)
