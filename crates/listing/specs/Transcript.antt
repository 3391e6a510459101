-- The whole transcript: the bytes that the program prints for the bytes of its input.
use Rattle.std.specs.Prelude.{Err, ℕ, suc, cond, List, [], ◌∷◌, ◌++◌, length, drop, replicate, leb, ltb, Option, Some, None}
use Rattle.answer.specs.declared.Refusal.TheVariants.{Unreadable}
use Rattle.cache.specs.Cache.{cell_count}
use Rattle.machine.specs.Holds.{start_of}
use Rattle.machine.specs.Image.{image_of}
use Rattle.machine.specs.State.{Machine}
use Rattle.script.specs.Script.{script_of}
use Rattle.recovery.specs.Recover.{recover_of}
use Rattle.line.specs.Lines.{lines_of}
use Rattle.print.specs.Printed.{result_text, cells_text}
use Rattle.line.specs.declared.Line.{Line}
use Rattle.line.specs.declared.Line.TheVariants.{Step, Undo}

-- "Standard input, at most 65,536 bytes"
abbrev pub most_input : ℕ
most_input = 65536

-- "Start cells are 0."
unfoldable pub start_machine : Machine
start_machine = (start_of (replicate cell_count 0)).machine

-- "at the end of input it cuts, recovers": the recovered cells
unfoldable pub recovered_cells : Machine → List ℕ
recovered_cells machine = (recover_of (image_of machine) (replicate cell_count 0)).buffer

-- what is printed for these lines, of which the first has this number, by this machine.
-- "A line that can't be read ends the run: it prints that line's number with answer=20 value=0, and no cells." An entry of a claimed undo
-- order is no step: here its line can't be read either.
unfoldable pub printed : Machine → ℕ → List (Option Line) → List ℕ
printed machine number [] = cells_text 0 (recovered_cells machine)
printed machine number (Some (Step kind thread place value) ∷ lines) =
    let stepped = script_of machine kind thread place value in
    result_text number stepped.answer ++ printed stepped.machine (suc number) lines
printed machine number (Some (Undo thread rank) ∷ lines) = result_text number (Err Unreadable)
printed machine number (None ∷ lines) = result_text number (Err Unreadable)

-- "Input too long prints only that, as line 1."
unfoldable pub transcript_of : List ℕ → List ℕ
transcript_of input = cond (ltb most_input (length input)) (result_text 1 (Err Unreadable)) (printed start_machine 1 (lines_of input))

-- bytes enough for any transcript
abbrev pub transcript_room : ℕ
transcript_room = 163840

-- the transcript in a lent buffer, and how many bytes it takes: a buffer without room for any is left as it was, with 0
pub record Transcript : Type 0 where
  pub count : ℕ
  pub buffer : List ℕ

unfoldable pub transcript_in : List ℕ → List ℕ → Transcript
transcript_in input buffer =
    cond (leb transcript_room (length buffer))
    (record { count = length (transcript_of input); buffer = transcript_of input ++ drop (length (transcript_of input)) buffer })
    (record { count = 0; buffer = buffer })
