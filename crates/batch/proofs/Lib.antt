-- Laws of a call that logs many cells.
pub mod BatchLaws
pub mod Cases
