-- The undo of an image, over the image's definitions: the undo order, and what the code takes and remembers on the way.
pub mod Undo
pub mod Reading
pub mod Latest
