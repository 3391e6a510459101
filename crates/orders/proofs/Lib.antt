-- Laws of takes and of orders of undoing, and the proof of what specs/ claims.
pub mod Timed
pub mod UndoSteps
pub mod UndoEnds
pub mod Takes
pub mod OrderLaws
pub mod Untangled
