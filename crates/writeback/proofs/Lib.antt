-- A part of a list that is written over, and a fence's walk over the lines.
pub mod Parts
pub mod Fences
