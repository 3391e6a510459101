-- Laws of the transcript: it is printed line by line, it fits the room that is asked for, and at its end stand the recovered cells.
use Prim.Native.Nat.{ℕ, suc, ◌+◌, ◌*◌, ◌≤◌}
use mathlib.Core.Path.{◌≡◌, refl, sym, ◌∙◌}
use mathlib.Core.Bool.{Bool, true, false, cond}
use mathlib.Core.List.{List, [], ◌∷◌, append-nil}
use native.Mathlib.Omega.{arith}
use lib.ListN.{length, length-append}
use lib.Dec.{eqb}
use Rattle.machine.specs.State.{Machine}
use Rattle.names.specs.Text.{ascii}
use Rattle.line.specs.Lines.{lines_of}
use Rattle.buffer.specs.Buffers.{written}
use Rattle.print.specs.Printed.{result_text, cell_text, cells_text}
use Rattle.buffer.proofs.BufferLaws.{placed}
use Rattle.buffer.proofs.DecimalLaws.{decimal-most}
use Rattle.listing.specs.Transcript.{most_input, start_machine, recovered_cells, printed, transcript_of, transcript_in, transcript_room}
use Rattle.listing.proofs.InputLaws.{steps-most}
use Rattle.listing.proofs.Printing.{LineByLine, result-most, texts-most, count_fits, Stands}
use Rattle.listing.proofs.Printing.{Printing, printing-long, piece-fits, printing-last, none_left}
use Rattle.listing.proofs.RecoveredLaws.{recovered-most}

-- the piece of a step is its answer
pub by-line : LineByLine printed (λ number stepped. result_text number stepped.answer)
unfolding printed
by-line = record {
  on_step = λ machine number kind thread place value lines. refl;
  on-undo = λ machine number thread rank lines. refl;
  on-unreadable = λ machine number lines. refl;
}

-- ---- the transcript's length

cell-most : (cell content : ℕ) → length (cell_text cell content) ≤ 53
unfolding cell_text ascii
cell-most cell content = simp length-append (omega (arith, decimal-most cell, decimal-most content))

cells_most : (cell : ℕ) (contents : List ℕ) → length (cells_text cell contents) ≤ 53 * length contents
unfolding cells_text
cells_most cell [] = omega arith
cells_most cell (content ∷ contents) =
    omega (
      arith,
      length-append (cond (eqb content 0) [] (cell_text cell content)) (cells_text (suc cell) contents),
      at_most (eqb content 0) (cell_text cell content) (cell-most cell content),
      cells_most (suc cell) contents,
    )
  where
    at_most : (none : Bool) (text : List ℕ) → length text ≤ 53 → length (cond none [] text) ≤ 53
    at_most true text few = omega arith
    at_most false text few = few

last-most : (machine : Machine) (number : ℕ) → length (printed machine number []) ≤ 6784
unfolding printed
last-most machine number = omega (arith, cells_most 0 (recovered_cells machine), recovered-most machine)

-- what is printed for an input that is not too long fits
pub printed-fits : (input : List ℕ) → length input ≤ most_input → length (printed start_machine 1 (lines_of input)) ≤ transcript_room
printed-fits input short =
    let most = texts-most by-line 78 6784 (λ number stepped. result-most number stepped.answer) last-most (omega arith) in
    omega (arith, most start_machine 1 (lines_of input), steps-most input)

-- a transcript in a lent buffer takes no more than the room that is asked for
pub transcript_count : (input buffer : List ℕ) → (transcript_in input buffer).count ≤ transcript_room
unfolding transcript_in transcript_of
transcript_count input buffer = count_fits input (printed start_machine 1 (lines_of input)) buffer (printed-fits input)

-- ---- the end of the input

module _ {text input old output : List ℕ} {machine : Machine} {number : ℕ} {rest : List ℕ}
    {place : ℕ} (so_far : Printing printed text input old output machine number rest place) (none : length rest ≤ 0) where
  abbrev cells : List ℕ
  cells = cells_text 0 (recovered_cells machine)

  all-printed : printed machine number (lines_of rest) ≡ cells
  unfolding printed
  all-printed = none_left so_far none

  pub cells_fit : place + length cells ≤ length output
  cells_fit =
      omega (arith, piece-fits so_far cells [] (all-printed ∙ sym (append-nil cells)), so_far.wrote.end, printing-long so_far)

  pub printing_end : {place' : ℕ} {output' : List ℕ} → (place' ≡ place + length cells) × (output' ≡ written output place cells)
      → Stands input text old place' output'
  printing_end put = printing-last so_far cells all-printed (put.0 ∙ sym (placed output place cells cells_fit), put.1)
