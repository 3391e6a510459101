-- Laws of an undo log: its invariant, and its regions, oldest and current.
pub mod UndoInvariant
pub mod Entered
pub mod Walks
pub mod RegionLaws
pub mod LoggedLaws
