-- Laws about presence and about a log's stretch of an image.
pub mod Presence
pub mod StretchLaws
