-- What is printed for a listing with a claimed undo order: step lines as in any listing, then the order, a line for each entry. The cut
-- falls after the last step line, and the order is marked against its image.
use Rattle.std.specs.Prelude.{Err, ℕ, suc, cond, List, [], ◌∷◌, ◌++◌, length, ltb, Option, Some, None}
use Rattle.answer.specs.declared.Refusal.TheVariants.{Unreadable}
use Rattle.machine.specs.Image.{image_of}
use Rattle.machine.specs.State.{Machine}
use Rattle.script.specs.Script.{script_of}
use Rattle.order.specs.Check.{check_of}
use Rattle.line.specs.Lines.{lines_of}
use Rattle.line.specs.declared.Line.{Line}
use Rattle.line.specs.declared.Line.TheVariants.{Step, Undo}
use Rattle.print.specs.Printed.{result_text, marked_text}
use Rattle.listing.specs.Transcript.{most_input, start_machine}

-- the one line that is printed of an order, given as words, and the machine that is cut, as `answer=27 place=3`
unfoldable pub mark_text : Machine → List ℕ → List ℕ
mark_text machine words = let checked = check_of (image_of machine) words in marked_text checked.answer checked.place

-- the order that these lines say, of which the first has this number, after these words of it. A line that says none, a step among them,
-- can't be read here, and its answer is all that is printed, as `n=5 answer=20 value=0`
unfoldable pub order_text : Machine → List ℕ → ℕ → List (Option Line) → List ℕ
order_text machine words number [] = mark_text machine words
order_text machine words number (Some (Step kind thread place value) ∷ lines) = result_text number (Err Unreadable)
order_text machine words number (Some (Undo thread rank) ∷ lines) = order_text machine (words ++ (thread ∷ rank ∷ [])) (suc number) lines
order_text machine words number (None ∷ lines) = result_text number (Err Unreadable)

-- the steps that these lines say, and from the first that says none the order. What a step answers is not printed: a refused one changes
-- nothing
unfoldable pub steps_text : Machine → ℕ → List (Option Line) → List ℕ
steps_text machine number [] = order_text machine [] number []
steps_text machine number (Some (Step kind thread place value) ∷ lines) =
    steps_text (script_of machine kind thread place value).machine (suc number) lines
steps_text machine number (Some (Undo thread rank) ∷ lines) = order_text machine [] number (Some (Undo thread rank) ∷ lines)
steps_text machine number (None ∷ lines) = order_text machine [] number (None ∷ lines)

-- too long an input prints only its answer, as line 1
unfoldable pub verdict_of : List ℕ → List ℕ
verdict_of input = cond (ltb most_input (length input)) (result_text 1 (Err Unreadable)) (steps_text start_machine 1 (lines_of input))
