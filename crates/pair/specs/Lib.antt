-- A pair of a claimed undo order: whether its entry may be taken next.
pub mod Pair
