-- Events entered in an undo log, and the regions that they make.
pub mod Entering
pub mod Regions
