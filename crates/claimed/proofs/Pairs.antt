-- The pass over the lines of an order: what is printed for all of them is printed for the lines that are left, after the words so far.
use Prim.Native.Nat.{ℕ, ◌+◌, ◌≤◌, ◌<◌}
use mathlib.Core.Path.{◌≡◌, refl, ap, ◌∙◌}
use mathlib.Core.List.{List, [], ◌∷◌, ◌++◌}
use native.Mathlib.Numerals.{add-one}
use native.Mathlib.Omega.{arith}
use lib.ListN.{length}
use borrow.Author.Tests.{lt-ltb, le-ltb}
use Rattle.std.specs.Prelude.{Option, Some, None, Result, Ok, Err}
use Rattle.answer.specs.declared.Refusal.TheVariants.{Unreadable}
use Rattle.machine.specs.Image.{image_of}
use Rattle.machine.specs.State.{Machine}
use Rattle.order.specs.declared.Checked.{Checked}
use Rattle.line.specs.Lines.{newline, after, first_line, lines_of}
use Rattle.line.specs.declared.Line.{Line}
use Rattle.line.specs.declared.Line.TheVariants.{Step, Undo}
use Rattle.print.specs.Printed.{result_text, marked_text}
use Rattle.listing.specs.Transcript.{most_input}
use Rattle.listing.proofs.InputLaws.{lines_end, lines_at, after-shorter}
use Rattle.claimed.specs.Verdict.{mark_text, order_text, verdict_of}
use Rattle.claimed.specs.Read.{StepsTaken, kept_words, read_text, PairsRead}
use Rattle.claimed.proofs.Kept.{Kept, kept-none, kept-checked}

pub record Reading (input : List ℕ) (first : ℕ) (pairs : List ℕ) (number count : ℕ) (rest : List ℕ) : Type 0 where
  pub counted : number + length rest ≤ first + length input
  pub words : List ℕ
  pub kept : Kept pairs count words
  pub left : (machine : Machine) → order_text machine [] first (lines_of input) ≡ order_text machine words number (lines_of rest)

pub reading-start : (input pairs : List ℕ) (first : ℕ) → length pairs ≡ kept_words → Reading input first pairs first 0 input
reading-start input pairs first long =
    record { counted = omega arith; words = []; kept = kept-none pairs long; left = λ machine. refl }

-- a line that says no entry of the order can't be read
no-entry : (machine : Machine) (words : List ℕ) (number : ℕ) (line : Option Line) (lines : List (Option Line)) →
    ((thread rank : ℕ) → line ≡ Some (Undo thread rank) → ⊥) → order_text machine words number (line ∷ lines) ≡ result_text number (Err Unreadable)
unfolding order_text
no-entry machine words number (Some (Step kind thread place value)) lines no_undo = refl
no-entry machine words number (Some (Undo thread rank)) lines no_undo = absurd (no_undo thread rank refl)
no-entry machine words number None lines no_undo = refl

module _ {input : List ℕ} {first : ℕ} {pairs : List ℕ} {number count : ℕ} {rest : List ℕ} (at : Reading input first pairs number count rest) where
  -- at the end of the input the order is whole
  pub reading-end : length rest ≤ 0 → PairsRead input first (Ok count) pairs
  unfolding order_text mark_text
  reading-end none = record {
    within = omega (arith, at.kept.within, at.kept.long);
    text = λ machine.
        at.left machine
        ∙ ap (order_text machine at.words number) (lines_end rest none)
        ∙ ap (λ (checked : Checked). marked_text checked.answer checked.place) (kept-checked at.kept (image_of machine));
  }

  module _ (more : 0 < length rest) {line : Option Line} (read : line ≡ first_line rest) where
    pub reading-stops : ((thread rank : ℕ) → line ≡ Some (Undo thread rank) → ⊥) → PairsRead input first (Err number) pairs
    reading-stops no_undo = record {
      within = tt;
      text = λ machine.
          at.left machine
          ∙ ap (order_text machine at.words number) (lines_at rest more read)
          ∙ no-entry machine at.words number line _ no_undo;
    }

    -- the pair that a line says is kept, or left out
    pub reading-on : {thread rank : ℕ} → line ≡ Some (Undo thread rank) → {rest' : List ℕ} → rest' ≡ after newline rest →
        {pairs' : List ℕ} {count' : ℕ} → Kept pairs' count' (at.words ++ (thread ∷ rank ∷ [])) →
        Reading input first pairs' (number + 1) count' rest'
    unfolding order_text
    reading-on {thread} {rank} says left kept = record {
      counted = omega (arith, at.counted, ap length left, after-shorter rest more);
      words = at.words ++ (thread ∷ rank ∷ []);
      kept = kept;
      left = λ machine.
          at.left machine
          ∙ ap (order_text machine at.words number) (lines_at rest more read)
          ∙ rw (says, left, add-one number);
    }

-- ---- both passes

-- too long an input prints its answer alone
pub too_long : (input : List ℕ) → most_input < length input → verdict_of input ≡ result_text 1 (Err Unreadable)
unfolding verdict_of
too_long input long = rw (lt-ltb most_input (length input) long)

-- one that is not is printed as the order after its steps
pub both_read : {input pairs : List ℕ} {machine : Machine} {first : ℕ} {rest : List ℕ} {read : Result ℕ ℕ} → length input ≤ most_input →
    StepsTaken input machine first rest → PairsRead rest first read pairs → verdict_of input ≡ read_text machine pairs read
unfolding verdict_of
both_read {input} {pairs} {machine} short steps order =
    rw (le-ltb most_input (length input) short) (steps.left ∙ order.text machine)
