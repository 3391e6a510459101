-- Laws of the cache's definitions, and of the loops over a line.
pub mod Lines
pub mod CacheLaws
