-- Where a byte first stands in a text, and a part of a text.
use Rattle.std.specs.Prelude.{ℕ, suc, Bool, true, false, List, [], ◌∷◌, eqb}

-- where a byte stands that is found here, or else in the rest
abbrev pub index_after : Bool → ℕ → ℕ
index_after true rest = 0
index_after false rest = suc rest

-- where the byte first stands; the text's length where it stands nowhere
unfoldable pub index_of : ℕ → List ℕ → ℕ
index_of byte [] = 0
index_of byte (first ∷ rest) = index_after (eqb first byte) (index_of byte rest)
