-- What a line of a listing says.
pub mod Lines
