-- Recovery of an image, over the image's definitions and its undo: the tests and the outcome.
pub mod Recover
