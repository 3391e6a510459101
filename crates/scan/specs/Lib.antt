-- Looking for a byte.
pub mod Find
