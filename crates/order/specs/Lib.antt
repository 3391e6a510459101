-- Marking a claimed undo order: what it is, and what is claimed of it.
pub mod Check
pub mod Claims
