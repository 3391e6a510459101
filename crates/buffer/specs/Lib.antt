-- Text in a lent buffer.
pub mod Buffers
pub mod Pages
