-- Laws about steps, and what holds of every machine that a list of steps leads to.
pub mod LogCases
pub mod StepLaws
pub mod Inputs
pub mod Beginnings
pub mod Sizes
pub mod Stretches
pub mod ImageWritten
pub mod AcceptedMeans
pub mod Counts
pub mod Reaching
pub mod Evictions
pub mod PartSteps
