-- LOAD and LOG, asked of the machine's parts.
pub mod Loads
pub mod Logs
