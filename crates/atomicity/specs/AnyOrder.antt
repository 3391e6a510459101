-- Any lawful undo order. Document 02: "For images the machine makes, prove that every such order recovers the same cells; for others
-- document 01's order decides." What such an order is stands in `orders/specs/Orders.antt`, and which images have one in `Untangled.antt`
-- there.
use Rattle.std.specs.Prelude.{ℕ, ◌≤◌, ◌≡◌, List, length, take}
use Rattle.machine.specs.Image.{image_of}
use Rattle.machine.specs.Runs.{Step}
use Rattle.orders.specs.Orders.{Name, IsOrder, undone_in_order}
use Rattle.reference.specs.Reference.{cells_of}
use Rattle.atomicity.specs.History.{machine_after, book_after}

-- of the image of a cut after these steps every order of all present entries leads to the reference model's cells; there is one, since
-- recovery accepts the image (`Demand3`) and an image that it accepts has one (`Untangled`)
abbrev pub UndoneAlike : List ℕ → List Step → Type 0
UndoneAlike words steps =
    (order : List Name) → IsOrder (image_of (machine_after words steps)) order →
    undone_in_order (image_of (machine_after words steps)) order ≡ cells_of (book_after words steps)

-- for every start, every list of steps and every cut, before the first step or after any
abbrev pub AnyOrder : Type 0
AnyOrder = (words : List ℕ) (steps : List Step) (cut : ℕ) → cut ≤ length steps → UndoneAlike words (take cut steps)
