-- Laws of the lines of an input, of printing line by line, of recovered cells and of the transcript, that the proofs of the functions cite.
pub mod InputLaws
pub mod Printing
pub mod RecoveredLaws
pub mod TranscriptLaws
