-- Laws about recovery's outcome, by its tests and cell by cell.
pub mod Outcomes
pub mod MixLaws
