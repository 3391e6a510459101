-- The one line that is printed fits the room that is asked for.
use Rattle.std.specs.Prelude.{Err}
use Prim.Native.Nat.{ℕ, suc, ◌+◌, ◌≤◌}
use mathlib.Core.Bool.{Bool, true, false, cond}
use mathlib.Core.List.{List, [], ◌∷◌, ◌++◌}
use native.Mathlib.Omega.{arith}
use lib.ListN.{length, length-append}
use lib.Dec.{leb, ltb}
use Rattle.std.specs.Prelude.{Option, Some, None}
use Rattle.answer.specs.Answer.{number_of}
use Rattle.answer.specs.declared.Refusal.TheVariants.{Unreadable}
use Rattle.machine.specs.Image.{image_of}
use Rattle.machine.specs.State.{Machine}
use Rattle.script.specs.Script.{script_of}
use Rattle.order.specs.Check.{check_of}
use Rattle.names.specs.Text.{ascii}
use Rattle.line.specs.Lines.{lines_of}
use Rattle.line.specs.declared.Line.{Line}
use Rattle.line.specs.declared.Line.TheVariants.{Step, Undo}
use Rattle.buffer.specs.Buffers.{place_after}
use Rattle.buffer.proofs.DecimalLaws.{decimal-most}
use Rattle.print.specs.Printed.{result_text, marked_text}
use Rattle.listing.specs.Transcript.{most_input, start_machine}
use Rattle.listing.proofs.Printing.{result-most}
use Rattle.claimed.specs.Verdict.{mark_text, order_text, steps_text, verdict_of}

mark-most : (machine : Machine) (words : List ℕ) → length (mark_text machine words) ≤ 78
unfolding mark_text marked_text ascii
mark-most machine words =
    let checked = check_of (image_of machine) words in
    simp length-append (omega (arith, decimal-most (number_of checked.answer), decimal-most checked.place))

order-most : (machine : Machine) (words : List ℕ) (number : ℕ) (lines : List (Option Line)) → length (order_text machine words number lines) ≤ 78
unfolding order_text
order-most machine words number [] = mark-most machine words
order-most machine words number (Some (Step kind thread place value) ∷ lines) = result-most number (Err Unreadable)
order-most machine words number (Some (Undo thread rank) ∷ lines) = order-most machine (words ++ (thread ∷ rank ∷ [])) (suc number) lines
order-most machine words number (None ∷ lines) = result-most number (Err Unreadable)

steps-most : (machine : Machine) (number : ℕ) (lines : List (Option Line)) → length (steps_text machine number lines) ≤ 78
unfolding steps_text
steps-most machine number [] = order-most machine [] number []
steps-most machine number (Some (Step kind thread place value) ∷ lines) =
    steps-most (script_of machine kind thread place value).machine (suc number) lines
steps-most machine number (Some (Undo thread rank) ∷ lines) = order-most machine [] number (Some (Undo thread rank) ∷ lines)
steps-most machine number (None ∷ lines) = order-most machine [] number (None ∷ lines)

verdict_most : (input : List ℕ) → length (verdict_of input) ≤ 78
unfolding verdict_of
verdict_most input = by_length (ltb most_input (length input))
  where
    by_length : (is_long : Bool) →
        length (cond is_long (result_text 1 (Err Unreadable)) (steps_text start_machine 1 (lines_of input))) ≤ 78
    by_length true = result-most 1 (Err Unreadable)
    by_length false = steps-most start_machine 1 (lines_of input)

-- what it takes of a lent buffer is no more than that
pub verdict_count : (input buffer : List ℕ) → place_after buffer 0 (verdict_of input) ≤ 78
unfolding place_after
verdict_count input buffer = by-room (leb (0 + length (verdict_of input)) (length buffer))
  where
    by-room : (fits : Bool) → cond fits (0 + length (verdict_of input)) 0 ≤ 78
    by-room true = omega (arith, verdict_most input)
    by-room false = omega arith
