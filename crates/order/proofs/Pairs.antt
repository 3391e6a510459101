-- Pairs as words: the entries that words name, two by two, and the words of a list of entries.
use Prim.Native.Nat.{ℕ, ◌*◌, ◌<◌}
use mathlib.Core.Path.{◌≡◌, refl, ap}
use mathlib.Core.List.{List, [], ◌∷◌, ◌++◌}
use native.Mathlib.Omega.{arith}
use lib.ListN.{length, get_or}
use Rattle.orders.specs.Orders.{Name, name}
use Rattle.order.specs.Check.{pairs_of}

-- two words name an entry, and those after them the rest
pub pairs_pair : (pair later : List ℕ) → length pair ≡ 2 →
    pairs_of (pair ++ later) ≡ name (get_or pair 0 0) (get_or pair 1 0) ∷ pairs_of later
unfolding pairs_of
pairs_pair [] later two = absurd (omega arith)
pairs_pair (thread ∷ []) later two = absurd (omega arith)
pairs_pair (thread ∷ lsn ∷ []) later two = refl
pairs_pair (thread ∷ lsn ∷ more ∷ words) later two = absurd (omega arith)

-- fewer than two name nothing
pub pairs_end : (words : List ℕ) → length words < 2 → pairs_of words ≡ []
unfolding pairs_of
pairs_end [] few = refl
pairs_end (thread ∷ []) few = refl
pairs_end (thread ∷ lsn ∷ words) few = absurd (omega arith)

-- the words of a list of entries
unfoldable pub words_of : List Name → List ℕ
words_of [] = []
words_of (entry ∷ order) = entry.thread ∷ entry.lsn ∷ words_of order

pub pairs_words : (order : List Name) → pairs_of (words_of order) ≡ order
unfolding pairs_of words_of
pairs_words [] = refl
pairs_words (entry ∷ order) = ap (λ (rest : List Name). entry ∷ rest) (pairs_words order)

pub length_words : (order : List Name) → length (words_of order) ≡ length order * 2
unfolding words_of
length_words [] = refl
length_words (entry ∷ order) = omega (arith, length_words order)
