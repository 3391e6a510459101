-- Laws about one log, for any thread: its slots and numbers, its invariant, what it may begin with, its present entries, and what a reader
-- finds in an image of four logs; and what an append leaves, for its proof.
pub mod Torn
pub mod SlotsHold
pub mod SlotLaws
pub mod LogNumbers
pub mod LogInvariant
pub mod Idle
pub mod PresentLaws
pub mod ImageLaws
pub mod Appends
