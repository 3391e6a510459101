-- Laws of texts and names that the proofs of the functions cite.
pub mod TextLaws
pub mod NameLaws
