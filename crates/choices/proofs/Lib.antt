-- Laws of the choices of lines, and of trying them, that the proofs of the functions and those of other crates cite.
pub mod ChoiceLaws
pub mod MixtureLaws
