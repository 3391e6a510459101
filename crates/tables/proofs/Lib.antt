-- Proofs that the rows hold, and that the two orders are orders.
pub mod Rows
pub mod PointsHold
pub mod EdgesHold
pub mod ForeignOrders
