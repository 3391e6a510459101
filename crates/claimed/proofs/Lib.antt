-- Laws of a listing with a claimed order, line by line.
pub mod Steps
pub mod Kept
pub mod Pairs
pub mod Room
