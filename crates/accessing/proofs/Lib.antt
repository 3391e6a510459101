-- Laws of steps that make an entry, and of LOG's tests.
pub mod EntryLaws
pub mod LogLaws
