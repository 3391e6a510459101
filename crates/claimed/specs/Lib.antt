-- A listing with a claimed undo order: what is printed for it, and what the passes over its lines leave.
pub mod Verdict
pub mod Read
