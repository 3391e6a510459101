-- What a call that logs many cells does, and that it is what single LOG steps do.
pub mod Batch
