-- What a copy of cells leaves in a buffer of just as many words.
pub mod CopyLaws
