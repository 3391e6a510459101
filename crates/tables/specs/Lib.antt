-- The P points, the edges of every definition, and two orders of undoing of an image that no machine made.
pub mod Points
pub mod Edges
pub mod ForeignOrders
