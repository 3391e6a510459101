-- `listings::count_lines` ends: each turn passes a line of the listing.
use lib.ListN.{length}
use Rattle.listings.proofs.count_lines.Given as goal

abbrev pub decreases-loop-lines : goal.decreases-loop-lines
decreases-loop-lines l = length l.lines
