-- What a copy of cells leaves in the buffer that it is made to.
pub mod Cells
