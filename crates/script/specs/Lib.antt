-- How a text line's fields are read, and what the line does to a machine.
pub mod Script
