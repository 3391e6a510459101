-- A copy of cells from one list of words over another, in front: "Recovery copies the kept cells", and the start call its words.
use Rattle.std.specs.Prelude.{ℕ, cond, ◌||◌, List, ◌++◌, length, take, drop, ltb}

-- the words that are copied, one for each of the 128 cells
abbrev pub copied_words : ℕ
copied_words = 128

-- the second list with the first words of the first one in front; as it was where one of the two has too few words
unfoldable pub copied_of : List ℕ → List ℕ → List ℕ
copied_of from to =
    cond (ltb (length from) copied_words || ltb (length to) copied_words) to (take copied_words from ++ drop copied_words to)
