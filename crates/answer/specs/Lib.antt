-- What an answer is, how refusals are tested in order, and the few definitions on lists that every crate's definitions share.
pub mod Answer
pub mod Lists
pub mod Refusals
