-- Laws of looking for a byte.
pub mod FindLaws
