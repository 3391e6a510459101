-- `corners::model::logs::kept_in_slot` ends: the entry of a turn is made before the one of the turn before.
use lib.ListN.{length}
use Rattle.corners.proofs.model.logs.kept_in_slot.Given as goal

abbrev pub decreases-loop-entry : goal.decreases-loop-entry
decreases-loop-entry l = length l.until
