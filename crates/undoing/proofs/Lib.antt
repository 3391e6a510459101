-- Laws of the undo order, of what is remembered of ACQUIREs, and of the code's pass and turns.
pub mod UndoLaws
pub mod LatestLaws
pub mod Asked
pub mod Pass
pub mod Turns
