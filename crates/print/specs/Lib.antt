-- What is printed of a step, of a recovered cell, of a cut and of a claimed order that is marked.
pub mod Printed
