-- Laws of numbers in decimal: how many digits they have.
use Prim.Native.Nat.{ℕ, zero, suc, ◌+◌, ◌^◌, ◌/◌, ◌%◌, ◌≤◌, ◌<◌}
use mathlib.Core.Path.{◌≡◌, refl, sym, ◌∙◌}
use mathlib.Core.Logic.{by_cases}
use mathlib.Core.List.{[], ◌∷◌}
use native.Mathlib.Decide.{dec_lt}
use native.Mathlib.Omega.{arith}
use native.Mathlib.Nat.{pow-le-pow_right, one-le-pow}
use borrow.Author.Tests.{lt-ltb, le-ltb}
use lib.ListN.{length, length-append}
use Rattle.std.specs.Fmt.{decimal}
use Rattle.std.proofs.lemmas.Fmt.{decimal_digit, decimal_step}
use Rattle.number.specs.Decimal.{last_digits, hex_digit_ascii, places_from, decimal_text}

module _ (number : ℕ) (word : number < 2 ^ 64) where
  -- the text that std writes for a number ends with its last digit
  one_digit : number < 10 → last_digits 10 1 number ≡ decimal number
  one_digit small =
      let same : number % 10 ≡ number = omega arith in
      rw (same, lt-ltb number 10 small) (sym (decimal_digit number small))

-- so many digits of a number as it has are what std writes for it
digits_decimal : (places number : ℕ) → number < 2 ^ 64 → number < 10 ^ suc places → (0 < places → 10 ^ places ≤ number)
    → last_digits 10 (suc places) number ≡ decimal number
digits_decimal zero number word holds least = one_digit number word (omega arith)
digits_decimal (suc places) number word holds least =
    let large : 10 ^ suc places ≤ number = least (omega arith) in
    let tens : 0 < 10 ^ places = one-le-pow places 10 (omega arith) in
    let last : number % 10 < 10 = omega arith in
    let first : last_digits 10 (suc places) (number / 10) ≡ decimal (number / 10) =
    digits_decimal places (number / 10) (omega arith) (omega arith) (λ some. omega arith) in
    rw (first, lt-ltb (number % 10) 10 last) (sym (decimal_step number (omega arith) word))

-- the fewest digits that hold the number, looked for from a count on that is not too many
found_decimal : (more places number : ℕ) → number < 2 ^ 64 → ((top : ℕ) → suc places + more ≤ top → number < 10 ^ top) → (0 < places → 10 ^ places ≤ number)
    → last_digits 10 (places_from more (suc places) number) number ≡ decimal number
unfolding places_from
found_decimal zero places number word holds least = digits_decimal places number word (holds (suc places) (omega arith)) least
found_decimal (suc more) places number word holds least =
    by_cases (dec_lt number (10 ^ suc places))
    (λ small. rw (lt-ltb number (10 ^ suc places) small) (digits_decimal places number word small least))
    (λ large.
    rw (le-ltb number (10 ^ suc places) (omega arith))
    (found_decimal more (suc places) number word (λ top more. holds top (omega arith)) (λ some. omega arith)))

-- what std writes for a word is the text of the definition
pub decimal_is : (number : ℕ) → number < 2 ^ 64 → decimal number ≡ decimal_text number
unfolding decimal_text
decimal_is number word = sym (found_decimal 19 0 number word
    (λ top more.
    let larger : 10 ^ 20 ≤ 10 ^ top = pow-le-pow_right {n = 10} (omega arith) {i = 20} {j = top} more in
    omega arith)
    (λ some. absurd (omega arith)))

-- the digits of a number, written in so many places, are so many
length_digits : (base places number : ℕ) → length (last_digits base places number) ≡ places
length_digits base zero number = refl
length_digits base (suc places) number =
    length-append (last_digits base places (number / base)) (hex_digit_ascii (number % base) ∷ []) ∙
    rw (length_digits base places (number / base)) (omega arith)

places-most : (more places number : ℕ) → places_from more places number ≤ places + more
unfolding places_from
places-most zero places number = omega arith
places-most (suc more) places number =
    by_cases (dec_lt number (10 ^ places))
    (λ small. rw (lt-ltb number (10 ^ places) small) (omega arith))
    (λ large. rw (le-ltb number (10 ^ places) (omega arith)) (omega (arith, places-most more (suc places) number)))

-- a number takes at most 20 bytes
pub decimal-most : (number : ℕ) → length (decimal_text number) ≤ 20
unfolding decimal_text
decimal-most number = rw (length_digits 10 (places_from 19 1 number) number) (places-most 19 1 number)
