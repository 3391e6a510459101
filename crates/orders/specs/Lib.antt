-- Orders of undoing, over an image's logs: what one is, and the claim that refusal 24 is given exactly where there is none.
pub mod Orders
pub mod Untangled
