-- Laws of locks and of the three steps' tests.
pub mod LockLaws
pub mod AskedLaws
