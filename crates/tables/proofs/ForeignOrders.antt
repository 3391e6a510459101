-- An image that no machine made has two orders that lead to different cells. Each is shown to be an order by its takes, which are computed.
use mathlib.Core.Path.{refl}
use native.Mathlib.Omega.{arith}
use Rattle.undoing.specs.Undo.{undo_start}
use Rattle.orders.proofs.OrderLaws.{takes-order}
use Rattle.orders.proofs.Takes.{Takes}
use Rattle.tables.specs.Points.{lent}
use Rattle.tables.specs.Edges.{zero_cells, untouched, logs, foreign, lower_first, higher_first}
use Rattle.tables.specs.ForeignOrders.{ForeignOrders}
use Rattle.tables.proofs.Rows.{all_given}

pub foreign_orders : ForeignOrders
unfolding all_given foreign lent zero_cells untouched logs
foreign_orders = record {
  accepts = refl;
  recovers = refl;
  lower_is =
      takes-order {undo = undo_start foreign} {order = lower_first}
      (Takes.taking 0 (omega arith) refl (Takes.taking 1 (omega arith) refl Takes.ended)) refl refl;
  higher_is =
      takes-order {undo = undo_start foreign} {order = higher_first}
      (Takes.taking 1 (omega arith) refl (Takes.taking 0 (omega arith) refl Takes.ended)) refl refl;
  lower_leads = refl;
  higher_leads = refl;
}
