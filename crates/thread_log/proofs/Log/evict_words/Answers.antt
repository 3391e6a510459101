-- `thread_log::Log::evict_words` meets its contract: what `has_slot` finds of the live LSNs is what the definition asks.
use Prim.Native.Nat.{◌<◌}
use mathlib.Core.Path.{◌≡◌, sym, ◌∙◌}
use native.Mathlib.Omega.{arith}
use Rattle.answer.specs.Refusals.{unless}
use Rattle.thread_log.specs.Entries.{is_live_slot, persist_words, evict_slot_tests, evict_words_of, evicted_words_of}
use Rattle.ring.proofs.Slots.{slot-of-run-low}
use Rattle.thread_log.proofs.Log.evict_words.Goals as goal
use Rattle.thread_log.proofs.Log.evict_words.Goals.{After-has_slot, Else-not-has_slot}

found-live : (c : After-has_slot)
    → is_live_slot c.args.self.now c.args.slot ≡ c.has_slot.result
unfolding is_live_slot
found-live c = sym (c.has_slot.ensures ∙ rw c.live_count.ensures)

low : (c : Else-not-has_slot) → c.args.slot < 64
low c =
    let a =
    c.args in
    slot-of-run-low a.self.now.head.0 a.slot _ (sym c.has_slot.ensures ∙ c.if-not-has_slot.false)

pub bounds-self-slot : goal.bounds-self-slot
bounds-self-slot c = low (goal.at.bounds-self-slot c).Else-not-has_slot

pub offset_bounds-self-slot : goal.offset_bounds-self-slot
offset_bounds-self-slot c = omega (arith, low (goal.at.offset_bounds-self-slot c).Else-not-has_slot)

pub bounds-self-slot-2 : goal.bounds-self-slot-2
bounds-self-slot-2 c = low (goal.at.bounds-self-slot-2 c).Else-not-has_slot

pub offset_bounds-self-slot-2 : goal.offset_bounds-self-slot-2
offset_bounds-self-slot-2 c = omega (arith, low (goal.at.offset_bounds-self-slot-2 c).Else-not-has_slot)

pub bounds-self-slot-3 : goal.bounds-self-slot-3
bounds-self-slot-3 c = low (goal.at.bounds-self-slot-3 c).Else-not-has_slot

pub offset_bounds-self-slot-3 : goal.offset_bounds-self-slot-3
offset_bounds-self-slot-3 c = omega (arith, low (goal.at.offset_bounds-self-slot-3 c).Else-not-has_slot)

pub returns-then-not-has_slot : goal.returns-then-not-has_slot
unfolding evicted_words_of evict_slot_tests unless
returns-then-not-has_slot c = rw (found-live (goal.at.returns-then-not-has_slot c).After-has_slot, c.if-not-has_slot.true)

pub returns : goal.returns
unfolding evicted_words_of evict_slot_tests evict_words_of persist_words unless
returns c = rw (found-live (goal.at.returns c).After-has_slot, c.if-not-has_slot.false, c.torn.ensures)
