-- The slots of a run of LSNs.
pub mod Slots
