-- A clock's numbers after a join and a raise, and the clocks at the start.
pub mod ClockLaws
