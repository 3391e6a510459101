-- What the proofs of the writer's functions cite.
pub mod Copied
pub mod Parts
