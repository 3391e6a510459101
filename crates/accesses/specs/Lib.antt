-- The accesses that clocks put in order.
pub mod Accesses
