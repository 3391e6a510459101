-- Texts as bytes: a fixed text, and whether two texts are the same.
use Rattle.std.specs.Prelude.{ℕ, Bool, true, false, ◌&&◌, List, [], ◌∷◌, eqb}
use Prim.Native.Char.{code}
use Prim.Native.String.{String, [] as none, ◌∷◌ as ◌then◌}

-- the bytes of a text in ASCII
unfoldable pub ascii : String → List ℕ
ascii none = []
ascii (letter then text) = code letter ∷ ascii text

-- the two texts are the same
unfoldable pub same_text : List ℕ → List ℕ → Bool
same_text [] [] = true
same_text [] (byte ∷ text) = false
same_text (byte ∷ text) [] = false
same_text (byte ∷ text) (byte' ∷ text') = eqb byte byte' && same_text text text'
