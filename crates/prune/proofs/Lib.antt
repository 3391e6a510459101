-- What PRUNE knows of the oldest region.
pub mod RegionParts
