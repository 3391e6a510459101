-- Laws of numbers in decimal that the proof of `number_in` cites.
pub mod NumberLaws
