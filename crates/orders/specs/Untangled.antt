-- Refusal 24 and the orders of an image. Document 02: "for images that pass 21 to 23, refusal 24 is given exactly when no order of all
-- present entries exists that takes each thread's entries last to first and each RELEASE after every ACQUIRE of that lock with a larger
-- count". So whether an image is tangled does not depend on the order that recovery tries.
use Rattle.std.specs.Prelude.{Ok, Err}
use Rattle.std.specs.Prelude.{ℕ, ◌≡◌, ◌⊎◌, List, length}
use Rattle.answer.specs.Refusals.{first_refusal}
use Rattle.answer.specs.declared.Refusal.TheVariants.{Cyclic}
use Rattle.reader.specs.Stretch.{heads_at}
use Rattle.image.specs.Tests.{image_tests}
use Rattle.recovery.specs.Recover.{recover_of}
use Rattle.orders.specs.Orders.{Name, IsOrder}

-- what recovery's answer tells of an image's orders
pub record OrdersDecide (image buffer : List ℕ) : Type 0 where
  -- where 24 is given no list is an order
  pub tangled : (recover_of image buffer).answer ≡ Err Cyclic → (order : List Name) → IsOrder image order → ⊥
  -- where the image is accepted there is one
  pub ordered : (recover_of image buffer).answer ≡ Ok 0 → (order : List Name) × IsOrder image order
  -- and the answer is one of the two
  pub either : ((recover_of image buffer).answer ≡ Err Cyclic) ⊎ ((recover_of image buffer).answer ≡ Ok 0)

-- of every image that 21 to 23 let pass, and every buffer for its cells that 21 lets pass
abbrev pub Untangled : Type 0
Untangled =
    (image buffer : List ℕ) → first_refusal (image_tests image) ≡ Ok 0 → length buffer ≡ heads_at → OrdersDecide image buffer
