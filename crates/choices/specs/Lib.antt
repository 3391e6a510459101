-- The choices of lines whose contents differ, and how they are tried: over any contents, whatever machine they are of.
pub mod Choices
pub mod Counting
