-- Laws of what stands past the last cell.
pub mod AccessLaws
