-- Refusal 24 is given exactly where there is no order: where there is one document 01's order takes all entries, and where that takes all,
-- the list of the entries as they were taken is one.
use Prim.Native.Nat.{ℕ, ◌≤◌, ◌<◌}
use mathlib.Core.Path.{◌≡◌, refl, sym, ap}
use mathlib.Core.Bool.{Bool, true, false}
use mathlib.Core.Logic.{◌⊎◌, inl, inr}
use mathlib.Core.List.{List}
use lib.ListN.{length, take}
use Rattle.std.specs.Prelude.{Ok, Err}
use Rattle.sizes.specs.Sizes.{thread_count}
use Rattle.answer.specs.Refusals.{first_refusal, Outcome}
use Rattle.answer.specs.declared.Refusal.TheVariants.{Cyclic}
use Rattle.answer.proofs.RefusalLaws.{never-ok}
use Rattle.ring.specs.Ring.{slot_count}
use Rattle.reader.specs.Stretch.{heads_at}
use Rattle.image.specs.Stored.{stored_logs, present_entries}
use Rattle.image.specs.Tests.{image_tests}
use Rattle.image.specs.Reading.{log_in}
use Rattle.image.proofs.LogsRead.{present_few, counts-long, count-present}
use Rattle.undoing.specs.Undo.{left_of, undo_start, undone}
use Rattle.recovery.specs.Recover.{has_left, recover_of}
use Rattle.recovery.proofs.Outcomes.{cyclic, recovered}
use Rattle.orders.specs.Orders.{Name, IsOrder}
use Rattle.orders.specs.Untangled.{Untangled}
use Rattle.orders.proofs.UndoSteps.{fails}
use Rattle.orders.proofs.Takes.{many_takes}
use Rattle.orders.proofs.OrderLaws.{order-taken, takes-order}

module _ (image : List ℕ) where
  pub few-present : (thread : ℕ) → thread < thread_count → left_of (present_entries image) thread ≤ slot_count
  few-present thread in_range = rw (count-present image thread in_range) (present_few (log_in image thread))

  -- where there is an order nothing is left
  order-undone : (order : List Name) → IsOrder image order → has_left (undone image) ≡ false
  unfolding undone undo_start
  order-undone order is_order =
      order-taken (stored_logs image) (present_entries image) order is_order (counts-long image) few-present (take heads_at image)

  -- and where nothing is left there is one
  undone-order : has_left (undone image) ≡ false → (order : List Name) × IsOrder image order
  unfolding undone undo_start
  undone-order nothing =
      let taken = many_takes (stored_logs image) 256 (undo_start image) in
      (taken.0, takes-order taken.1 (counts-long image) nothing)

  module _ (buffer : List ℕ) (passes : first_refusal (image_tests image) ≡ Ok 0) (is_buffer : length buffer ≡ heads_at) where
    -- with entries left the answer is 24, and with none acceptance
    gives-24 : has_left (undone image) ≡ true → (recover_of image buffer).answer ≡ Err Cyclic
    gives-24 left = sym (ap (λ (outcome : Outcome). outcome.answer) (cyclic image buffer is_buffer passes left))

    accepts : has_left (undone image) ≡ false → (recover_of image buffer).answer ≡ Ok 0
    accepts nothing = sym (ap (λ (outcome : Outcome). outcome.answer) (recovered image buffer is_buffer passes nothing))

    not-both : (recover_of image buffer).answer ≡ Err Cyclic → (recover_of image buffer).answer ≡ Ok 0 → ⊥
    not-both is_cyclic is_accepted = never-ok is_cyclic is_accepted

    decided : (left : Bool) → has_left (undone image) ≡ left →
        ((recover_of image buffer).answer ≡ Err Cyclic) ⊎ ((recover_of image buffer).answer ≡ Ok 0)
    decided true left = inl (gives-24 left)
    decided false nothing = inr (accepts nothing)

-- of every image that 21 to 23 let pass
pub untangled : Untangled
untangled image buffer passes is_buffer = record {
  tangled = λ is_cyclic order is_order.
      not-both image buffer passes is_buffer is_cyclic (accepts image buffer passes is_buffer (order-undone image order is_order));
  ordered = λ is_accepted.
      undone-order image (fails (has_left (undone image)) (λ left.
      not-both image buffer passes is_buffer (gives-24 image buffer passes is_buffer left) is_accepted));
  either = decided image buffer passes is_buffer (has_left (undone image)) refl;
}
