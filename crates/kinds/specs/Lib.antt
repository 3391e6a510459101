-- The kinds of step, which fields each uses, and the refusals because of the input.
pub mod Kinds
