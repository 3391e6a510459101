-- Laws of the input's tests.
pub mod Inputs
pub mod Rows
