-- `ring::has_slot` meets its contract: arithmetic on the first LSN finds how many LSNs come before the one in the slot.
use Rattle.ring.proofs.Slots.{no-such-slot, slot-of-run}
use mathlib.Core.Path.{sym}
use borrow.Author.Rules.{rules}
use Rattle.ring.proofs.has_slot.Goals as goal

pub returns-then-slot-ge-SLOTS : goal.returns-then-slot-ge-SLOTS
returns-then-slot-ge-SLOTS c = let a = c.args in sym (no-such-slot a.first.0 a.slot c.if-slot-ge-SLOTS.true a.count)

pub returns : goal.returns
returns c = let a = c.args in sym (slot-of-run a.first.0 a.slot (search rules) a.count)
