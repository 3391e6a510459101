-- How the choices are tried, over any two contents of the cells: the digits of a choice's number tell which lines it has, and a choice is
-- alike where the kept cells, with the seen ones in its lines, are the kept ones.
use Rattle.std.specs.Prelude.{ℕ, zero, suc, ◌+◌, ◌/◌, ◌%◌, ◌<◌, Bool, false, cond, not, ◌||◌, List, [], ◌∷◌, ◌++◌, length, get_or, eqb, ltb}
use Rattle.answer.specs.Lists.{tab, some_below}
use Rattle.cache.specs.Cache.{cell_count, line_count, line_of}
use Rattle.choices.specs.Choices.{lowest_lines, choices_of}

-- every number of the list is below this one
abbrev pub Below : ℕ → List ℕ → Type 0
Below bound numbers = (index : ℕ) → index < length numbers → get_or numbers index 0 < bound

-- the line is among these
unfoldable pub is_in : ℕ → List ℕ → Bool
is_in line [] = false
is_in line (other ∷ lines) = eqb line other || is_in line lines

-- the choice of this number: it has the first line where the number is odd, and of the others those of half the number
unfoldable pub choice_at : List ℕ → ℕ → List ℕ
choice_at [] number = []
choice_at (line ∷ lines) number = cond (eqb (number % 2) 1) (line ∷ []) [] ++ choice_at lines (number / 2)

-- how many choices there are of so many lines
unfoldable pub twos : ℕ → ℕ
twos zero = 1
twos (suc count) = twos count + twos count

-- of each line, whether the choice has it
unfoldable pub marks_of : List ℕ → List Bool
marks_of choice = tab line_count (λ line. is_in line choice)

-- what a cell holds where the marked lines have the seen contents and the others the kept ones
unfoldable pub mixed_at : List Bool → List ℕ → List ℕ → ℕ → ℕ
mixed_at marks seen kept cell = cond (get_or marks (line_of cell) false) (get_or seen cell 0) (get_or kept cell 0)

-- with the seen contents in the marked lines every cell still holds the kept one
unfoldable pub is_alike : List ℕ → List ℕ → List Bool → Bool
is_alike seen kept marks = not (some_below cell_count (λ cell. not (eqb (mixed_at marks seen kept cell) (get_or kept cell 0))))

-- how many of a list the test holds of
unfoldable pub count_if : {A : Type 0} → (A → Bool) → List A → ℕ
count_if test [] = 0
count_if test (one ∷ rest) = cond (test one) 1 0 + count_if test rest

-- how many choices of the lines are alike
unfoldable pub count_alike : List ℕ → List ℕ → List ℕ → ℕ
count_alike seen kept lines = count_if (λ choice. is_alike seen kept (marks_of choice)) (choices_of lines)

-- how many choices are alike of the lines in which two images' cells differ; an image without all cells has no choice
unfoldable pub alike_choices : List ℕ → List ℕ → List ℕ → List ℕ → ℕ
alike_choices evicted image seen kept =
    cond (ltb (length evicted) cell_count) 0
    (cond (ltb (length image) cell_count) 0 (count_alike seen kept (lowest_lines evicted image)))
