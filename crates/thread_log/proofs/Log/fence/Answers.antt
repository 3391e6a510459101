-- `thread_log::Log::fence` meets its contract, by the loop's invariant.
use Prim.Native.Nat.{◌+◌}
use mathlib.Core.Path.{◌≡◌, refl, ◌∙◌}
use native.Mathlib.Numerals.{add-one}
use native.Mathlib.Omega.{arith}
use Rattle.ring.specs.Ring.{slot_of}
use Rattle.tail.specs.Tail.{unfenced, fenced_tail}
use Rattle.thread_log.specs.Entries.{persist_words, persist_slot, persist_from, fence_log_of}
use Rattle.thread_log.proofs.Log.fence.Goals as goal

pub loop-done-init : goal.loop-done-init
unfolding persist_from
loop-done-init c = (omega (arith, c.slot_after-slot.ensures), refl)

pub loop-done-preserved : goal.loop-done-preserved
unfolding persist_from persist_slot persist_words
loop-done-preserved c = let first = c.args.self.now.tail.durable.0 + 1 in
    let slot : c.next_slot-slot.result ≡ slot_of (first + c.loop-done.done) =
    omega (arith, c.loop-done.invariant.0, c.next_slot-slot.ensures) in
    (omega (arith, slot), rw (slot, c.loop-done.invariant.1, add-one c.loop-done.done))

pub returns : goal.returns
unfolding fence_log_of
returns c = let log = c.args.self.now in
    let all : c.loop-done.done ≡ unfenced log.tail = omega arith in
    let fenced : c.fenced-self.result ≡ fenced_tail log.tail = c.fenced-self.ensures ∙ rw c.loop-done.invariant.1 in
    rw (fenced, c.loop-done.invariant.1, all)
