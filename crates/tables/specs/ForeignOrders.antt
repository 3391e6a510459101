-- Why document 01's order has to decide for images that no machine made: two lawful orders of one of them lead to different cells. Its
-- threads 0 and 1 each have one STORE of cell 5, with the contents 1 and 2.
use Rattle.std.specs.Prelude.{ℕ, ◌≡◌, List, get_or, Ok}
use Rattle.recovery.specs.Recover.{recover_of}
use Rattle.orders.specs.Orders.{IsOrder, undone_in_order}
use Rattle.tables.specs.Points.{lent}
use Rattle.tables.specs.Edges.{foreign, lower_first, higher_first}

-- what cell 5 holds
abbrev pub cell5 : List ℕ → ℕ
cell5 cells = get_or cells 5 0

pub record ForeignOrders : Type 0 where
  -- recovery accepts the image, and takes the lower thread first
  pub accepts : (recover_of foreign lent).answer ≡ Ok 0
  pub recovers : cell5 (recover_of foreign lent).buffer ≡ 2
  -- that is an order of all present entries, and the other way is one too
  pub lower_is : IsOrder foreign lower_first
  pub higher_is : IsOrder foreign higher_first
  -- they lead to different cells
  pub lower_leads : cell5 (undone_in_order foreign lower_first) ≡ 2
  pub higher_leads : cell5 (undone_in_order foreign higher_first) ≡ 1
