-- One entry, and the words that it is persisted as.
pub mod Words
