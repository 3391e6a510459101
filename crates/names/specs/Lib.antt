-- Texts as bytes, and the names of the kinds.
pub mod Text
pub mod Names
