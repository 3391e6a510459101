-- A log's stretch of an image.
pub mod Stretch
