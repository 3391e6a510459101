-- Document 01's machine, in document 01's order: what it holds, the steps, the refusals, the image of a cut, and lists of steps.
pub mod State
pub mod Holds
pub mod Clocks
pub mod Refusals
pub mod Effects
pub mod Steps
pub mod Image
pub mod Runs
pub mod View
