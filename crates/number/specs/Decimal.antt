-- A number in decimal: the number that a text is, and the text of a number.
use Rattle.std.specs.Prelude.{ℕ, zero, suc, ◌+◌, ◌-◌, ◌*◌, ◌/◌, ◌%◌, ◌^◌, Bool, cond, ◌&&◌, List, [], ◌∷◌, ◌++◌, eqb, leb, ltb, Option, Some, None}

-- "0" to "9"
abbrev pub is_digit : ℕ → Bool
is_digit byte = leb 48 byte && ltb byte 58

-- the number that goes on with these digits; nothing past 2^64
unfoldable pub digits_after : ℕ → List ℕ → Option ℕ
digits_after number [] = Some number
digits_after number (byte ∷ text) =
    let next = number * 10 + (byte - 48) in
    cond (is_digit byte && ltb next (2 ^ 64)) (digits_after next text) None

-- "decimal below 2^64 without leading zeros"
unfoldable pub number_in : List ℕ → Option ℕ
number_in [] = None
number_in (byte ∷ []) = digits_after 0 (byte ∷ [])
number_in (first ∷ second ∷ text) = cond (eqb first 48) None (digits_after 0 (first ∷ second ∷ text))

-- the fewest digits, from this many on and at most so many more, that hold the number
unfoldable pub places_from : ℕ → ℕ → ℕ → ℕ
places_from zero places number = places
places_from (suc more) places number = cond (ltb number (10 ^ places)) places (places_from more (suc places) number)

-- the ASCII code of a digit below 16: `0` to `9`, then `a` to `f`
abbrev pub hex_digit_ascii : ℕ → ℕ
hex_digit_ascii d = cond (ltb d 10) (48 + d) (87 + d)

-- the last k digits of n in base b, the most significant first
abbrev pub last_digits : ℕ → ℕ → ℕ → List ℕ
last_digits b zero n = []
last_digits b (suc k) n = last_digits b k (n / b) ++ (hex_digit_ascii (n % b) ∷ [])

-- a number below 2^64, which has 1 to 20 digits, "in decimal .. without leading zeros"
unfoldable pub decimal_text : ℕ → List ℕ
decimal_text number = last_digits 10 (places_from 19 1 number) number
