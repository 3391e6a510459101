-- The choices of evicted lines at a cut, and what is printed of each cut of a listing.
pub mod Tried
pub mod Cuts
