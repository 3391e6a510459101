-- The thread's record. Nothing here names a thread, and nothing says what an entry holds.
pub mod Tail
