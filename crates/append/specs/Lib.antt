-- What an append asks of the thread's record and makes of it.
pub mod Append
