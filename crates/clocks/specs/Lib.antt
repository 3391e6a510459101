-- Clocks, which decide what happens before.
pub mod Clocks
