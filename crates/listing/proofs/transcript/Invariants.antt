-- `listing::transcript` meets its contract. The loop's invariant: what is written so far, and what the machine prints for the lines that
-- are left, is the transcript.
use Prim.Native.Nat.{ℕ}
use mathlib.Core.Path.{◌≡◌}
use mathlib.Core.List.{List}
use lib.ListN.{length}
use Rattle.line.specs.Lines.{lines_of}
use Rattle.listing.specs.Transcript.{start_machine, printed}
use Rattle.listing.proofs.Printing.{Printing}
use Rattle.listing.proofs.transcript.Given as goal

abbrev pub text : List ℕ → List ℕ
text input = printed start_machine 1 (lines_of input)

abbrev pub invariant-loop-rest : goal.invariant-loop-rest
invariant-loop-rest l = record {
  same : l.page.buffer.ghost_name ≡ l.initial.page.buffer.ghost_name;
  printing : Printing printed (text l.input) l.input l.fn.output l.page.buffer.now l.machine l.number l.rest l.page.place;
}

abbrev pub decreases-loop-rest : goal.decreases-loop-rest
decreases-loop-rest l = length l.rest
