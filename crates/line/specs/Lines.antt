-- What a line of the input says: a step, "the step's name in capitals, then thread, place and value in decimal below 2^64 without leading
-- zeros, one space between", or, written likewise, an entry of a claimed undo order.
use Rattle.std.specs.Prelude.{ℕ, ◌+◌, cond, List, [], ◌∷◌, ◌++◌, length, take, drop, eqb, ltb, Option, Some, None}
use Rattle.scan.specs.Find.{index_of}
use Rattle.number.specs.Decimal.{number_in}
use Rattle.names.specs.Text.{ascii, same_text}
use Rattle.names.specs.Names.{kind_named}
use Rattle.line.specs.declared.Line.{Line}
use Rattle.line.specs.declared.Line.TheVariants.{Step, Undo}

abbrev pub space : ℕ
space = 32

abbrev pub newline : ℕ
newline = 10

-- what stands before the byte's first place in the text: all, where there is none
unfoldable pub before : ℕ → List ℕ → List ℕ
before byte text = take (index_of byte text) text

-- what stands after the byte's first place in the text: nothing, where there is none
unfoldable pub after : ℕ → List ℕ → List ℕ
after byte text = drop (index_of byte text + 1) text

-- what the text says after the key that it begins with
unfoldable pub after_key : List ℕ → (List ℕ → Option ℕ) → List ℕ → Option ℕ
after_key key says text = cond (same_text (take (length key) text) key) (says (drop (length key) text)) None

-- a step, where each of its four fields could be read
unfoldable pub step_line : Option ℕ → Option ℕ → Option ℕ → Option ℕ → Option Line
step_line (Some kind) (Some thread) (Some place) (Some value) = Some (Step kind thread place value)
step_line None thread place value = None
step_line (Some kind) None place value = None
step_line (Some kind) (Some thread) None value = None
step_line (Some kind) (Some thread) (Some place) None = None

-- an entry of a claimed undo order, where both of its fields could be read
unfoldable pub undo_line : Option ℕ → Option ℕ → Option Line
undo_line (Some thread) (Some rank) = Some (Undo thread rank)
undo_line None rank = None
undo_line (Some thread) None = None

-- the step that a line says, as `step=LOG thread=0 place=5 value=0`
unfoldable pub step_in : List ℕ → Option Line
step_in text =
    let after_step = after space text in
    let after_thread = after space after_step in
    step_line
    (after_key (ascii "step=") kind_named (before space text))
    (after_key (ascii "thread=") number_in (before space after_step))
    (after_key (ascii "place=") number_in (before space after_thread))
    (after_key (ascii "value=") number_in (after space after_thread))

-- the entry of a claimed undo order that a line says after its first word, as `undo thread=0 rank=3`: one of document 02's "pairs, thread
-- and rank"
unfoldable pub undo_in : List ℕ → Option Line
undo_in text =
    let after_undo = after space text in
    undo_line
    (after_key (ascii "thread=") number_in (before space after_undo))
    (after_key (ascii "rank=") number_in (after space after_undo))

-- what a line says, given without its newline: an entry of a claimed undo order where its first word is `undo`, and else a step
unfoldable pub line_of : List ℕ → Option Line
line_of text = cond (same_text (before space text) (ascii "undo")) (undo_in text) (step_in text)

-- what the first line of some input says: what has no newline after it can't be read
unfoldable pub first_line : List ℕ → Option Line
first_line input = cond (ltb (index_of newline input) (length input)) (line_of (before newline input)) None

-- what stands after the last newline, if anything, can't be read
abbrev pub unended : List ℕ → List (Option Line)
unended [] = []
unended (byte ∷ line) = None ∷ []

-- "one step a line, each line ended by a newline": what each line says, where these bytes of the first line are passed already
unfoldable pub lines_from : List ℕ → List ℕ → List (Option Line)
lines_from line [] = unended line
lines_from line (byte ∷ input) =
    cond (eqb byte newline) (line_of line ∷ lines_from [] input) (lines_from (line ++ (byte ∷ [])) input)

-- what each line of the input says
unfoldable pub lines_of : List ℕ → List (Option Line)
lines_of input = lines_from [] input
