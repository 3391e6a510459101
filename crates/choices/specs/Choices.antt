-- "Every choice of the data lines whose seen and kept contents differ, at most the 8 lowest", over any two contents.
use Rattle.std.specs.Prelude.{ℕ, zero, suc, ◌+◌, ◌*◌, Bool, cond, not, get_or, take, eqb}
use mathlib.Core.List.{List, [], ◌∷◌, ◌++◌, map, flatten}
use Rattle.answer.specs.Lists.{some_below}
use Rattle.cache.specs.Cache.{line_count}

-- two contents of the cells differ in some cell of the line
unfoldable pub differs_in : List ℕ → List ℕ → ℕ → Bool
differs_in seen kept line = some_below 8 (λ index. not (eqb (get_or seen (line * 8 + index) 0) (get_or kept (line * 8 + index) 0)))

-- of so many lines from this one on, those of which the test holds, ascending
unfoldable pub lines_where : (ℕ → Bool) → ℕ → ℕ → List ℕ
lines_where test line zero = []
lines_where test line (suc count) = cond (test line) (line ∷ []) [] ++ lines_where test (suc line) count

-- of how many lines every choice is tried: "at most the 8 lowest"
abbrev pub most_tried : ℕ
most_tried = 8

-- "the data lines whose seen and kept contents differ, at most the 8 lowest"
unfoldable pub lowest_lines : List ℕ → List ℕ → List ℕ
lowest_lines seen kept = take most_tried (lines_where (differs_in seen kept) 0 line_count)

-- "every choice" of some lines: every choice of the others, without the first line and with it
unfoldable pub choices_of : List ℕ → List (List ℕ)
choices_of [] = [] ∷ []
choices_of (line ∷ lines) = flatten (map (λ choice. choice ∷ (line ∷ choice) ∷ []) (choices_of lines))
