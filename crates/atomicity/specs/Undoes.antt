-- A claimed undo order of a machine's image. Document 02: "An accepted one for a machine's image undoes to the cells that recovery gives."
-- Which lists are accepted stands in `order/specs/Check.antt`, and that these are the orders in `Claims.antt` there.
use Rattle.std.specs.Prelude.{ℕ, ◌≤◌, ◌≡◌, List, length, take, Ok}
use Rattle.cache.specs.Cache.{cell_count}
use Rattle.machine.specs.Image.{image_of}
use Rattle.machine.specs.Runs.{Step}
use Rattle.recovery.specs.Recover.{recover_of}
use Rattle.orders.specs.Orders.{undone_in_order}
use Rattle.order.specs.Check.{pairs_of, check_of}
use Rattle.atomicity.specs.History.{machine_after}

-- for every start, every list of steps and every cut, before the first step or after any, and every list that is accepted for its image
abbrev pub Undoes : Type 0
Undoes =
    (words : List ℕ) (steps : List Step) (cut : ℕ) (pairs buffer : List ℕ) → cut ≤ length steps → length buffer ≡ cell_count →
    let image = image_of (machine_after words (take cut steps)) in
    (check_of image pairs).answer ≡ Ok 0 → undone_in_order image (pairs_of pairs) ≡ (recover_of image buffer).buffer
