-- Laws of the cuts of a listing: they are printed line by line, and they fit the room that is asked for.
use Prim.Native.Nat.{ℕ, ◌≤◌}
use mathlib.Core.Path.{◌≡◌, refl, sym, ◌∙◌, ap}
use mathlib.Core.List.{List, [], ◌++◌, append-nil}
use native.Mathlib.Omega.{arith}
use lib.ListN.{length, length-append}
use Rattle.machine.specs.State.{Machine}
use Rattle.names.specs.Text.{ascii}
use Rattle.line.specs.Lines.{lines_of}
use Rattle.print.specs.Printed.{cut_line_text}
use Rattle.buffer.proofs.BufferLaws.{Wrote, wrote_first}
use Rattle.buffer.proofs.DecimalLaws.{decimal-most}
use Rattle.listing.specs.Transcript.{most_input, start_machine, transcript_room}
use Rattle.listing.proofs.InputLaws.{steps-most}
use Rattle.listing.proofs.Printing.{LineByLine, texts-most, count_fits, Stands, Put, print-all, Printing, none_left}
use Rattle.cuts.specs.Cuts.{cut_text, cuts_from, cuts_of, cuts_in}

-- the piece of a step is the cut after it
pub by-line : LineByLine cuts_from (λ number stepped. cut_text number stepped.machine)
unfolding cuts_from
by-line = record {
  on_step = λ machine number kind thread place value lines. refl;
  on-undo = λ machine number thread rank lines. refl;
  on-unreadable = λ machine number lines. refl;
}

-- ---- how long the lines of cuts are

-- a cut's line has three numbers of at most 20 digits, and 20 bytes besides
cut-line-most : (number choices differ : ℕ) → length (cut_line_text number choices differ) ≤ 80
unfolding cut_line_text ascii
cut-line-most number choices differ =
    simp length-append (omega (arith, decimal-most number, decimal-most choices, decimal-most differ))

cut_most : (number : ℕ) (machine : Machine) → length (cut_text number machine) ≤ 80
unfolding cut_text
cut_most number machine = cut-line-most number _ _

last-most : (machine : Machine) (number : ℕ) → length (cuts_from machine number []) ≤ 78
unfolding cuts_from
last-most machine number = omega arith

-- the cut at the start and those after the lines
abbrev pub cuts_text : List ℕ → List ℕ
cuts_text input = cut_text 0 start_machine ++ cuts_from start_machine 1 (lines_of input)

-- the cuts of an input that is not too long fit the room
pub cuts_fit : (input : List ℕ) → length input ≤ most_input → length (cuts_text input) ≤ transcript_room
cuts_fit input short =
    let most = texts-most by-line 80 78 (λ number stepped. cut_most number stepped.machine) last-most (omega arith) in
    omega (
      arith,
      length-append (cut_text 0 start_machine) (cuts_from start_machine 1 (lines_of input)),
      cut_most 0 start_machine,
      most start_machine 1 (lines_of input),
      steps-most input,
    )

-- the cuts of any input, too long or not, take no more of a lent buffer than the room that is asked for
pub cuts_count : (input buffer : List ℕ) → (cuts_in input buffer).count ≤ transcript_room
unfolding cuts_in cuts_of
cuts_count input buffer = count_fits input (cuts_text input) buffer (cuts_fit input)

-- ---- before the first line, and at the end of the input

-- the cut of the start call's machine
pub first-cut : (old : List ℕ) → transcript_room ≤ length old → {machine : Machine} → machine ≡ start_machine
    → {place : ℕ} {output : List ℕ} → Put old 0 (cut_text 0 machine) place output → Wrote old output place (cut_text 0 start_machine)
first-cut old room {machine} is put = rw (sym is) (wrote_first old (omega (arith, cut_most 0 machine)) put.0 put.1)

-- at the end of the input no more is printed: what is written is all
pub printing_end : {text input old output : List ℕ} {machine : Machine} {number : ℕ} {rest : List ℕ} {place : ℕ}
    → Printing cuts_from text input old output machine number rest place → length rest ≤ 0
    → {lent : List ℕ} → lent ≡ output → Stands input text old place lent
unfolding cuts_from
printing_end {text} {input} {old} so_far none ended =
    let all : text ≡ so_far.done =
    sym so_far.left ∙ ap (λ (rest : List ℕ). so_far.done ++ rest) (none_left so_far none) ∙ append-nil so_far.done in
    rw ended (print-all input text old so_far.room so_far.short (rw all so_far.wrote))
