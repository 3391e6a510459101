-- Laws of what is printed.
pub mod PrintLaws
