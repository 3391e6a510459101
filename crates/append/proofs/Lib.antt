-- What the tests of an append decide.
pub mod Room
