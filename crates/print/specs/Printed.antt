-- What is printed of a step, of a recovered cell, of a cut and of a claimed order that is marked.
use Rattle.std.specs.Prelude.{ℕ, suc, cond, List, [], ◌∷◌, ◌++◌, eqb}
use denote.Ref.{Bor}
use Rattle.answer.specs.Answer.{number_of, value_of}
use Rattle.answer.specs.Answer.{Answer}
use Rattle.number.specs.Decimal.{decimal_text}
use Rattle.names.specs.Text.{ascii}

-- a line of numbers, each after its label
unfoldable pub fields_text : List (Bor (List ℕ) × ℕ) → List ℕ
fields_text [] = ascii "\n"
fields_text (field ∷ fields) = field.0.now ++ decimal_text field.1 ++ fields_text fields

-- "It prints per step its number, answer and number given", as `n=1 answer=0 value=0`
unfoldable pub result_text : ℕ → Answer → List ℕ
result_text number answer =
    ascii "n=" ++ decimal_text number ++ ascii " answer=" ++ decimal_text (number_of answer) ++ ascii " value=" ++ decimal_text (value_of answer)
    ++ ascii "\n"

-- a recovered cell, as `cell=5 holds=7`
unfoldable pub cell_text : ℕ → ℕ → List ℕ
cell_text cell content = ascii "cell=" ++ decimal_text cell ++ ascii " holds=" ++ decimal_text content ++ ascii "\n"

-- "each recovered cell that isn't 0, ascending": the cells from this one on
unfoldable pub cells_text : ℕ → List ℕ → List ℕ
cells_text cell [] = []
cells_text cell (content ∷ contents) = cond (eqb content 0) [] (cell_text cell content) ++ cells_text (suc cell) contents

-- a cut: its step's number, how many choices were tried, and how many recovered cells differ from the start, as `n=0 choices=1 differ=0`
unfoldable pub cut_line_text : ℕ → ℕ → ℕ → List ℕ
cut_line_text number choices differ =
    ascii "n=" ++ decimal_text number ++ ascii " choices=" ++ decimal_text choices ++ ascii " differ=" ++ decimal_text differ ++ ascii "\n"

-- what is printed of a claimed order that is marked: its answer and the place of its first bad pair, as `answer=27 place=3`
unfoldable pub marked_text : Answer → ℕ → List ℕ
marked_text answer pair = ascii "answer=" ++ decimal_text (number_of answer) ++ ascii " place=" ++ decimal_text pair ++ ascii "\n"
