-- One log, whose entries mean nothing here.
pub mod Entries
