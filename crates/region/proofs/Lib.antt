-- Laws of the oldest region.
pub mod OldestLaws
