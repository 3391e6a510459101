-- What is printed for a listing: "a program that cuts a listing after each step, the start included".
use Rattle.std.specs.Prelude.{Err, ℕ, suc, cond, List, [], ◌∷◌, ◌++◌, length, drop, eqb, leb, ltb, Option, Some, None}
use Rattle.answer.specs.declared.Refusal.TheVariants.{Unreadable}
use Rattle.machine.specs.State.{Machine}
use Rattle.script.specs.Script.{script_of}
use Rattle.line.specs.Lines.{lines_of}
use Rattle.line.specs.declared.Line.{Line}
use Rattle.line.specs.declared.Line.TheVariants.{Step, Undo}
use Rattle.print.specs.Printed.{result_text, cut_line_text}
use Rattle.listing.specs.Transcript.{most_input, start_machine, transcript_room, Transcript}
use Rattle.cuts.specs.Tried.{recovered_by, tried}

-- "how many recovered cells differ from the start": start cells are 0
unfoldable pub not_zero : List ℕ → ℕ
not_zero [] = 0
not_zero (content ∷ contents) = cond (eqb content 0) (not_zero contents) (suc (not_zero contents))

-- "Print step number, choices tried, and how many recovered cells differ from the start"
unfoldable pub cut_text : ℕ → Machine → List ℕ
cut_text number machine = cut_line_text number (length (tried machine)) (not_zero (recovered_by machine []).buffer)

-- a cut after each of these lines, of which the first has this number, by this machine; of an old listing's EVICT, "such a line is one
-- step, cut only after the eight". The next step is taken on the machine without the evictions. "An unreadable line ends it as in document
-- 01." So does an entry of a claimed undo order, which is no step.
unfoldable pub cuts_from : Machine → ℕ → List (Option Line) → List ℕ
cuts_from machine number [] = []
cuts_from machine number (Some (Step kind thread place value) ∷ lines) =
    let stepped = script_of machine kind thread place value in
    cut_text number stepped.machine ++ cuts_from stepped.machine (suc number) lines
cuts_from machine number (Some (Undo thread rank) ∷ lines) = result_text number (Err Unreadable)
cuts_from machine number (None ∷ lines) = result_text number (Err Unreadable)

-- "first `n=0 choices=1 differ=0`"; too long an input prints only its answer, as line 1
unfoldable pub cuts_of : List ℕ → List ℕ
cuts_of input =
    cond (ltb most_input (length input)) (result_text 1 (Err Unreadable))
    (cut_text 0 start_machine ++ cuts_from start_machine 1 (lines_of input))

-- the cuts in a lent buffer, and how many bytes they take: a buffer without room for any is left as it was, with 0
unfoldable pub cuts_in : List ℕ → List ℕ → Transcript
cuts_in input buffer =
    cond (leb transcript_room (length buffer))
    (record { count = length (cuts_of input); buffer = cuts_of input ++ drop (length (cuts_of input)) buffer })
    (record { count = 0; buffer = buffer })
