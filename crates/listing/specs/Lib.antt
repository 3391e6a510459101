-- The listing program's whole transcript.
pub mod Transcript
