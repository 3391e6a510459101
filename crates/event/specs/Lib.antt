-- What an entry of an undo log means.
pub mod Events
