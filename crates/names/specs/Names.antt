-- The names of the kinds of step, as a listing writes them, and the kind of a name.
use Rattle.std.specs.Prelude.{ℕ, suc, cond, List, [], ◌∷◌, Option, Some, None}
use Rattle.names.specs.Text.{ascii, same_text}

-- the names of the kinds, and that of the retired kind 11: a name's place is its number
unfoldable pub names : List (List ℕ)
names =
    ascii "LOAD" ∷ ascii "LOG" ∷ ascii "STORE" ∷ ascii "ACQUIRE" ∷ ascii "LOGREL" ∷ ascii "RELEASE" ∷
    ascii "FLUSH" ∷ ascii "FLUSHLOG" ∷ ascii "FENCE" ∷ ascii "PRUNE" ∷ ascii "EVICT" ∷ ascii "EVICTLOG" ∷
    ascii "EVICTCELL" ∷ ascii "EVICTWORDS" ∷ []

-- the number of the name that the text is, where the first name has this number
unfoldable pub kind_from : ℕ → List (List ℕ) → List ℕ → Option ℕ
kind_from number [] text = None
kind_from number (name ∷ names) text = cond (same_text text name) (Some number) (kind_from (suc number) names text)

unfoldable pub kind_named : List ℕ → Option ℕ
kind_named text = kind_from 1 names text
