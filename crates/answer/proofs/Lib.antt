-- Laws about the definitions that every crate shares.
pub mod Beside
pub mod RefusalLaws
pub mod BelowLaws
pub mod Searches
pub mod ListLaws
pub mod ListCases
