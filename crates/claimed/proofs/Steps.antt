-- The pass over the step lines: what is printed for the whole input is printed for the lines that are left, by the machine so far.
use Prim.Native.Nat.{ℕ, ◌+◌, ◌≤◌, ◌<◌}
use mathlib.Core.Path.{◌≡◌, refl, ap, ◌∙◌}
use mathlib.Core.List.{List, [], ◌∷◌}
use native.Mathlib.Numerals.{add-one}
use native.Mathlib.Omega.{arith}
use lib.ListN.{length}
use Rattle.std.specs.Prelude.{Option, Some, None}
use Rattle.machine.specs.State.{Machine}
use Rattle.script.specs.Script.{script_of}
use Rattle.line.specs.Lines.{newline, after, first_line, lines_of}
use Rattle.line.specs.declared.Line.{Line}
use Rattle.line.specs.declared.Line.TheVariants.{Step, Undo}
use Rattle.listing.specs.Transcript.{start_machine}
use Rattle.listing.proofs.InputLaws.{lines_end, lines_at, after-shorter}
use Rattle.claimed.specs.Verdict.{order_text, steps_text}
use Rattle.claimed.specs.Read.{StepsTaken}

pub record Taking (input : List ℕ) (machine : Machine) (number : ℕ) (rest : List ℕ) : Type 0 where
  pub within : length rest ≤ length input
  pub counted : number + length rest ≤ length input + 1
  pub left : steps_text start_machine 1 (lines_of input) ≡ steps_text machine number (lines_of rest)

pub taking_start : (input : List ℕ) {machine : Machine} → machine ≡ start_machine → Taking input machine 1 input
taking_start input is = record { within = omega arith; counted = omega arith; left = rw is }

-- from a line that says no step on, the order stands
order_begins : (machine : Machine) (number : ℕ) (line : Option Line) (lines : List (Option Line)) → ((kind thread place value : ℕ) → line ≡ Some (Step kind thread place value) → ⊥) →
    steps_text machine number (line ∷ lines) ≡ order_text machine [] number (line ∷ lines)
unfolding steps_text
order_begins machine number (Some (Step kind thread place value)) lines no_step = absurd (no_step kind thread place value refl)
order_begins machine number (Some (Undo thread rank)) lines no_step = refl
order_begins machine number None lines no_step = refl

module _ {input : List ℕ} {machine : Machine} {number : ℕ} {rest : List ℕ} (at : Taking input machine number rest) where
  taken : steps_text machine number (lines_of rest) ≡ order_text machine [] number (lines_of rest) → StepsTaken input machine number rest
  taken same = record { within = at.within; counted = at.counted; left = at.left ∙ same }

  -- at the end of the input the order has no line
  pub taking-end : length rest ≤ 0 → StepsTaken input machine number rest
  unfolding steps_text
  taking-end none = taken (rw (lines_end rest none))

  module _ (more : 0 < length rest) {line : Option Line} (read : line ≡ first_line rest) where
    pub taking-stops : ((kind thread place value : ℕ) → line ≡ Some (Step kind thread place value) → ⊥) → StepsTaken input machine number rest
    taking-stops no_step = taken (rw (lines_at rest more read) (order_begins machine number line _ no_step))

    pub taking_step : {kind thread place value : ℕ} → line ≡ Some (Step kind thread place value) → {next : Machine} →
        next ≡ (script_of machine kind thread place value).machine → {rest' : List ℕ} → rest' ≡ after newline rest →
        Taking input next (number + 1) rest'
    unfolding steps_text
    taking_step {kind} {thread} {place} {value} says is left = record {
      within = omega (arith, at.within, ap length left, after-shorter rest more);
      counted = omega (arith, at.counted, ap length left, after-shorter rest more);
      left = at.left ∙ ap (steps_text machine number) (lines_at rest more read) ∙ rw (says, is, left, add-one number);
    }
