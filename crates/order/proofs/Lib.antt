-- Laws of the checker, and the proofs of what specs/ claims of it.
pub mod Pairs
pub mod Marked
pub mod Outcomes
pub mod ClaimsHold
