-- Laws of texts and of the first line of an input, which proofs over the lines of an input cite.
pub mod TextLaws
pub mod LineLaws
