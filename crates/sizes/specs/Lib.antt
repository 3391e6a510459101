-- The sizes that several crates' definitions share.
pub mod Sizes
