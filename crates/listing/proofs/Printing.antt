-- A loop over the lines of an input that prints a piece for each step, whatever the piece is: how long the pieces are, and that a part is
-- written and the lines that are left print the other part.
use Rattle.std.specs.Prelude.{Err}
use Prim.Native.Nat.{ℕ, suc, ◌+◌, ◌*◌, ◌≤◌, ◌<◌}
use mathlib.Core.Path.{◌≡◌, refl, sym, ◌∙◌, ap, ap₂}
use mathlib.Core.Bool.{cond}
use mathlib.Core.Logic.{by_cases}
use mathlib.Core.List.{List, [], ◌∷◌, ◌++◌, append-nil, append_assoc}
use native.Mathlib.Decide.{dec_le, dec_lt}
use native.Mathlib.Nat.{mul-suc}
use native.Mathlib.Numerals.{add-one}
use native.Mathlib.Omega.{arith}
use borrow.Author.Tests.{le-leb, lt-leb, lt-ltb, le-ltb}
use lib.ListN.{length, drop, length-append}
use lib.Dec.{leb, ltb}
use Rattle.std.specs.Prelude.{Option, Some, None}
use Rattle.answer.specs.Answer.{number_of, value_of}
use Rattle.answer.specs.Answer.{Answer}
use Rattle.answer.specs.declared.Refusal.TheVariants.{Unreadable}
use Rattle.machine.specs.State.{Machine}
use Rattle.machine.specs.declared.Stepped.{Stepped}
use Rattle.script.specs.Script.{script_of}
use Rattle.names.specs.Text.{ascii}
use Rattle.line.specs.Lines.{newline, after, first_line, lines_of}
use Rattle.line.specs.declared.Line.{Line}
use Rattle.line.specs.declared.Line.TheVariants.{Step, Undo}
use Rattle.buffer.specs.Buffers.{written, place_after}
use Rattle.print.specs.Printed.{result_text}
use Rattle.buffer.proofs.BufferLaws.{Wrote, wrote_first, wrote_long, wrote_more}
use Rattle.buffer.proofs.DecimalLaws.{decimal-most}
use Rattle.listing.specs.Transcript.{most_input, start_machine, transcript_room, Transcript}
use Rattle.listing.proofs.InputLaws.{leading, lines_end, lines_at, after-shorter}

-- ---- the pieces

-- what is printed for some lines, by a machine, from a number on: a piece for each line that says a step, and the answer 20 where one says
-- none
pub record LineByLine (texts : Machine → ℕ → List (Option Line) → List ℕ) (piece : ℕ → Stepped → List ℕ) : Type 0 where
  pub on_step : (machine : Machine) (number kind thread place value : ℕ) (lines : List (Option Line))
      → texts machine number (Some (Step kind thread place value) ∷ lines)
      ≡ piece number (script_of machine kind thread place value) ++
      texts (script_of machine kind thread place value).machine (suc number) lines
  pub on-undo : (machine : Machine) (number thread rank : ℕ) (lines : List (Option Line))
      → texts machine number (Some (Undo thread rank) ∷ lines) ≡ result_text number (Err Unreadable)
  pub on-unreadable : (machine : Machine) (number : ℕ) (lines : List (Option Line))
      → texts machine number (None ∷ lines) ≡ result_text number (Err Unreadable)

pub result-most : (number : ℕ) (answer : Answer) → length (result_text number answer) ≤ 78
unfolding result_text ascii
result-most number answer =
    simp length-append (omega (arith, decimal-most number, decimal-most (number_of answer), decimal-most (value_of answer)))

-- how long the texts are, where a piece and the text after the last line have bounds
module _ {texts : Machine → ℕ → List (Option Line) → List ℕ} {piece : ℕ → Stepped → List ℕ} (by-line : LineByLine texts piece) (most last : ℕ)
    (piece-most : (number : ℕ) (stepped : Stepped) → length (piece number stepped) ≤ most)
    (last-most : (machine : Machine) (number : ℕ) → length (texts machine number []) ≤ last) (some : 78 ≤ last) where
  pub texts-most : (machine : Machine) (number : ℕ) (lines : List (Option Line)) → length (texts machine number lines) ≤ most * leading lines + last
  unfolding leading
  texts-most machine number [] = omega (arith, last-most machine number)
  texts-most machine number (Some (Step kind thread place value) ∷ lines) =
      let stepped = script_of machine kind thread place value in
      omega (
        arith,
        ap length (by-line.on_step machine number kind thread place value lines),
        length-append (piece number stepped) (texts stepped.machine (suc number) lines),
        piece-most number stepped,
        texts-most stepped.machine (suc number) lines,
        mul-suc most (leading lines),
      )
  texts-most machine number (Some (Undo thread rank) ∷ lines) =
      omega (arith, ap length (by-line.on-undo machine number thread rank lines), result-most number (Err Unreadable))
  texts-most machine number (None ∷ lines) =
      omega (arith, ap length (by-line.on-unreadable machine number lines), result-most number (Err Unreadable))

-- ---- all that is printed

-- all that is printed: the text for all lines, or for too long an input only its answer, as line 1
abbrev pub whole_of : List ℕ → List ℕ → List ℕ
whole_of input text = cond (ltb most_input (length input)) (result_text 1 (Err Unreadable)) text

-- all that is printed fits, where the text of an input that is not too long does
whole-fits : (input text : List ℕ) → (length input ≤ most_input → length text ≤ transcript_room)
    → length (whole_of input text) ≤ transcript_room
whole-fits input text fits =
    by_cases (dec_lt most_input (length input))
    (λ long. rw (lt-ltb most_input (length input) long) (omega (arith, result-most 1 (Err Unreadable))))
    (λ not-long. rw (le-ltb most_input (length input) (omega arith)) (fits (omega arith)))

-- all that is printed, in a lent buffer, and how many bytes it takes; a buffer without room for any is left as it was
abbrev pub whole_in : List ℕ → List ℕ → List ℕ → Transcript
whole_in input text buffer =
    cond (leb transcript_room (length buffer))
    (record { count = length (whole_of input text); buffer = whole_of input text ++ drop (length (whole_of input text)) buffer })
    (record { count = 0; buffer = buffer })

-- what printing all into a lent buffer takes is no more than the room, where the text of an input that is not too long fits that
pub count_fits : (input text buffer : List ℕ) → (length input ≤ most_input → length text ≤ transcript_room)
    → (whole_in input text buffer).count ≤ transcript_room
count_fits input text buffer fits =
    by_cases (dec_le transcript_room (length buffer))
    (λ room. rw (le-leb transcript_room (length buffer) room) (whole-fits input text fits))
    (λ no_room. let short : length buffer < transcript_room = omega arith in rw (lt-leb transcript_room (length buffer) short) (omega arith))

-- the count and the buffer are what printing all into the lent buffer leaves
abbrev pub Stands : List ℕ → List ℕ → List ℕ → ℕ → List ℕ → Type 0
Stands input text old place output = ◌≡◌ {A = Transcript} (record { count = place; buffer = output }) (whole_in input text old)

-- a piece was put at a place of a buffer, where it fits: the place and the buffer after it
abbrev pub Put : List ℕ → ℕ → List ℕ → ℕ → List ℕ → Type 0
Put buffer place piece place' buffer' = (place' ≡ place_after buffer place piece) × (buffer' ≡ written buffer place piece)

module _ (input text old : List ℕ) where
  pub print-refused : length old < transcript_room → Stands input text old 0 old
  print-refused short = rw (lt-leb transcript_room (length old) short)

  module _ (room : transcript_room ≤ length old) {place : ℕ} {output : List ℕ} where
    stands : Wrote old output place (whole_of input text) → Stands input text old place output
    stands all =
        rw (le-leb transcript_room (length old) room)
        (ap₂ (λ (count : ℕ) (buffer : List ℕ). record { count = count; buffer = buffer }) all.end all.held)

    pub print-long : most_input < length input → Put old 0 (result_text 1 (Err Unreadable)) place output → Stands input text old place output
    print-long long put =
        stands
        (rw (lt-ltb most_input (length input) long) (wrote_first old (omega (arith, result-most 1 (Err Unreadable))) put.0 put.1))

    pub print-all : length input ≤ most_input → Wrote old output place text → Stands input text old place output
    print-all short all = stands (rw (le-ltb most_input (length input) short) all)

-- ---- the loop over the lines

-- of the text for all lines a part is written, and what the machine prints for the lines that are left is the other part
pub record Printing (texts : Machine → ℕ → List (Option Line) → List ℕ) (text input old output : List ℕ) (machine : Machine)
    (number : ℕ) (rest : List ℕ) (place : ℕ) : Type 0 where
  pub short : length input ≤ most_input
  pub fits : length text ≤ transcript_room
  pub room : transcript_room ≤ length old
  pub done : List ℕ
  pub wrote : Wrote old output place done
  pub left : done ++ texts machine number (lines_of rest) ≡ text
  pub counted : number + length rest ≤ length input + 1

-- before the first line, what is printed first is the part that is written
pub printing_start : {texts : Machine → ℕ → List (Option Line) → List ℕ} (first : List ℕ) {input old output : List ℕ} {machine : Machine} {place : ℕ}
    → length input ≤ most_input → length (first ++ texts start_machine 1 (lines_of input)) ≤ transcript_room → transcript_room ≤ length old
    → Wrote old output place first → machine ≡ start_machine
    → Printing texts (first ++ texts start_machine 1 (lines_of input)) input old output machine 1 input place
printing_start first short fits room wrote is = record {
  short = short;
  fits = fits;
  room = room;
  done = first;
  wrote = wrote;
  left = rw is;
  counted = omega arith;
}

-- a line that says no step prints the answer 20
no_step_lem : {texts : Machine → ℕ → List (Option Line) → List ℕ} {piece : ℕ → Stepped → List ℕ} → LineByLine texts piece
    → (machine : Machine) (number : ℕ) (line : Option Line) (lines : List (Option Line)) → ((kind thread place value : ℕ) → line ≡ Some (Step kind thread place value) → ⊥)
    → texts machine number (line ∷ lines) ≡ result_text number (Err Unreadable)
no_step_lem by-line machine number (Some (Step kind thread place value)) lines no_step = absurd (no_step kind thread place value refl)
no_step_lem by-line machine number (Some (Undo thread rank)) lines no_step = by-line.on-undo machine number thread rank lines
no_step_lem by-line machine number None lines no_step = by-line.on-unreadable machine number lines

module _ {texts : Machine → ℕ → List (Option Line) → List ℕ} {text input old output : List ℕ} {machine : Machine} {number : ℕ} {rest : List ℕ}
    {place : ℕ} (so_far : Printing texts text input old output machine number rest place) where
  pub printing-long : length output ≡ length old
  printing-long = wrote_long so_far.wrote

  -- a piece of what is left fits
  pub piece-fits : (piece others : List ℕ) → texts machine number (lines_of rest) ≡ piece ++ others
      → length so_far.done + length piece ≤ length old
  piece-fits piece others is =
      omega (
        arith,
        so_far.fits,
        so_far.room,
        ap length so_far.left,
        length-append so_far.done (texts machine number (lines_of rest)),
        ap length is,
        length-append piece others,
      )

  -- once the last piece is put, all is printed
  pub printing-last : (piece : List ℕ) → texts machine number (lines_of rest) ≡ piece
      → {place' : ℕ} {output' : List ℕ} → Put output place piece place' output' → Stands input text old place' output'
  printing-last piece is put =
      let all = wrote_more piece so_far.wrote (piece-fits piece [] (is ∙ sym (append-nil piece))) put.0 put.1 in
      let whole = sym so_far.left ∙ ap (λ (others : List ℕ). so_far.done ++ others) is in
      print-all input text old so_far.room so_far.short (rw whole all)

  -- at the end of the input no line is left
  pub none_left : length rest ≤ 0 → texts machine number (lines_of rest) ≡ texts machine number []
  none_left none = ap (texts machine number) (lines_end rest none)

  -- the first line of the rest is read
  module _ (more : 0 < length rest) {line : Option Line} (read : line ≡ first_line rest) where
    first : texts machine number (lines_of rest) ≡ texts machine number (line ∷ lines_of (after newline rest))
    first = ap (texts machine number) (lines_at rest more read)

    -- a line that says no step prints the answer 20 as the last piece
    pub printing-unreadable : {piece : ℕ → Stepped → List ℕ} → LineByLine texts piece → ((kind thread place value : ℕ) → line ≡ Some (Step kind thread place value) → ⊥)
        → {place' : ℕ} {output' : List ℕ} → Put output place (result_text number (Err Unreadable)) place' output'
        → Stands input text old place' output'
    printing-unreadable by-line no_step put =
        printing-last (result_text number (Err Unreadable)) (first ∙ no_step_lem by-line machine number line _ no_step) put

    -- a line that says a step prints its piece
    module _ {kind thread cell value : ℕ} (says : line ≡ Some (Step kind thread cell value)) {stepped : Stepped}
        (is : stepped ≡ script_of machine kind thread cell value) {piece : ℕ → Stepped → List ℕ} (by-line : LineByLine texts piece)
        {rest' : List ℕ} (left : rest' ≡ after newline rest) where
      abbrev said : List ℕ
      said = piece number stepped

      abbrev others : List ℕ
      others = texts stepped.machine (number + 1) (lines_of rest')

      step-printed : texts machine number (lines_of rest) ≡ said ++ others
      step-printed = first ∙ rw (says, by-line.on_step, is, left, add-one number)

      pub printing-step : {place' : ℕ} {output' : List ℕ} → Put output place said place' output'
          → Printing texts text input old output' stepped.machine (number + 1) rest' place'
      printing-step put = record {
        short = so_far.short;
        fits = so_far.fits;
        room = so_far.room;
        done = so_far.done ++ said;
        wrote = wrote_more said so_far.wrote (piece-fits said others step-printed) put.0 put.1;
        left =
            append_assoc so_far.done said others ∙ ap (λ (tail : List ℕ). so_far.done ++ tail) (sym step-printed) ∙ so_far.left;
        counted = omega (arith, so_far.counted, ap length left, after-shorter rest more);
      }
