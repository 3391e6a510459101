-- The kind of a name: one name at a time, and by its place among the names.
use Prim.Native.Nat.{ℕ, suc, ◌+◌}
use native.Mathlib.Numerals.{add-one}
use mathlib.Core.Path.{◌≡◌, refl, ◌∙◌, ap}
use mathlib.Core.Bool.{Bool, true, false, cond}
use mathlib.Core.List.{List, [], ◌∷◌, map}
use denote.Ref.{Bor}
use Rattle.std.specs.Prelude.{Option, Some, option_map, position}
use Rattle.std.specs.List.{position_from}
use Rattle.std.proofs.lemmas.Iterator.Adapters.{position_from-zero}
use Rattle.names.specs.Text.{same_text}
use Rattle.names.specs.Names.{kind_from}

-- the number of a name, or what the names after it find
pub kind-from : (number : ℕ) (name : List ℕ) (names : List (List ℕ)) (text : List ℕ) {found others : Option ℕ} →
    found ≡ cond (same_text text name) (Some number) others → others ≡ kind_from (suc number) names text →
    found ≡ kind_from number (name ∷ names) text
unfolding kind_from
kind-from number name names text first rest = first ∙ ap (cond (same_text text name) (Some number)) rest

-- the kind of a name is one more than its place among the names
module _ (text : List ℕ) where
  -- the text is this word
  abbrev is_word : Bor (List ℕ) → Bool
  is_word word = same_text text word.now

  -- the number of the word that the text is, where the first has this number
  abbrev kind_among : ℕ → List (Bor (List ℕ)) → Option ℕ
  kind_among number words = kind_from number (map (λ word. word.now) words) text

  abbrev one_more : Option ℕ → Option ℕ
  one_more = option_map (λ at. at + 1)

  kind_after : (place : ℕ) (words : List (Bor (List ℕ))) → one_more (position_from is_word place words) ≡ kind_among (suc place) words
  unfolding kind_from
  kind_after place [] = refl
  kind_after place (word ∷ words) = by_word (is_word word) (kind_after (place + 1) words)
    where
      by_word : (same : Bool) → one_more (position_from is_word (place + 1) words) ≡ kind_among (suc (place + 1)) words
          → one_more (cond same (Some place) (position_from is_word (place + 1) words))
          ≡ cond same (Some (suc place)) (kind_among (suc (suc place)) words)
      by_word true later = ap Some (add-one place)
      by_word false later = later ∙ rw (add-one place)

  -- where the text is found among the words, one more than the place is the number of the word, the first of which has number 1
  pub kind_at : {rest words : List (Bor (List ℕ))} {found : Option ℕ} → rest ≡ words → found ≡ position is_word rest
      → one_more found ≡ kind_among 1 words
  kind_at {rest} is found =
      ap one_more (found ∙ position_from-zero is_word rest) ∙ kind_after 0 rest ∙ ap (kind_among 1) is
