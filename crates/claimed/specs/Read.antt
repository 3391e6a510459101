-- What the two passes over the lines of a listing with a claimed order leave: the one takes its steps, the other reads its order.
use Rattle.std.specs.Prelude.{ℕ, ◌+◌, ◌≤◌, ◌≡◌, List, [], length, take, Result, Ok, Err, IfOk}
use Rattle.answer.specs.declared.Refusal.TheVariants.{Unreadable}
use Rattle.machine.specs.State.{Machine}
use Rattle.order.specs.Check.{most_words}
use Rattle.line.specs.Lines.{lines_of}
use Rattle.print.specs.Printed.{result_text}
use Rattle.listing.specs.Transcript.{start_machine}
use Rattle.claimed.specs.Verdict.{mark_text, order_text, steps_text}

-- the steps are taken, and what is left of the input, from a line of this number on, is the order
pub record StepsTaken (input : List ℕ) (machine : Machine) (number : ℕ) (rest : List ℕ) : Type 0 where
  pub within : length rest ≤ length input
  pub counted : number + length rest ≤ length input + 1
  pub left : steps_text start_machine 1 (lines_of input) ≡ order_text machine [] number (lines_of rest)

-- the words that are kept of an order: a pair more than can be marked, by which a longer one shows
abbrev pub kept_words : ℕ
kept_words = most_words + 2

-- what is printed of an order: its mark, where it is read to its end, as so many words of the buffer; or the line of this number says none
-- of it
abbrev pub read_text : Machine → List ℕ → Result ℕ ℕ → List ℕ
read_text machine pairs (Ok count) = mark_text machine (take count pairs)
read_text machine pairs (Err number) = result_text number (Err Unreadable)

-- the order is read so
pub record PairsRead (input : List ℕ) (first : ℕ) (read : Result ℕ ℕ) (pairs : List ℕ) : Type 0 where
  pub within : IfOk read (λ count. count ≤ length pairs)
  pub text : (machine : Machine) → order_text machine [] first (lines_of input) ≡ read_text machine pairs read
