-- Laws about an image's logs and tests, and what the proofs of several functions share.
pub mod Made
pub mod LogsRead
pub mod GoodEntries
pub mod Outcomes
pub mod Tested
