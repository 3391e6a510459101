-- `cuts::all_cuts` meets its contract. The loop's invariant: in any buffer in which the cut at the start was written first, what is written
-- so far, and what is printed for the lines that are left, are all cuts.
use Prim.Native.Nat.{ℕ, ◌≤◌}
use mathlib.Core.Path.{◌≡◌}
use mathlib.Core.List.{List}
use lib.ListN.{length}
use Rattle.buffer.proofs.BufferLaws.{Wrote}
use Rattle.listing.specs.Transcript.{start_machine, transcript_room}
use Rattle.listing.proofs.Printing.{Printing}
use Rattle.cuts.specs.Cuts.{cut_text, cuts_from}
use Rattle.cuts.proofs.CutsLaws.{cuts_text}
use Rattle.cuts.proofs.all_cuts.Given as goal

abbrev pub invariant-loop-rest : goal.invariant-loop-rest
invariant-loop-rest l = record {
  same : l.page.buffer.ghost_name ≡ l.initial.page.buffer.ghost_name;
  printing : (old : List ℕ) → transcript_room ≤ length old → Wrote old l.initial.page.buffer.now l.initial.page.place (cut_text 0 start_machine)
      → Printing cuts_from (cuts_text l.input) l.input old l.page.buffer.now l.machine l.number l.rest l.page.place;
}

abbrev pub decreases-loop-rest : goal.decreases-loop-rest
decreases-loop-rest l = length l.rest
