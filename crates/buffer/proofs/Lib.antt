-- Laws of text in a lent buffer, and of numbers in decimal.
pub mod BufferLaws
pub mod DecimalLaws
