-- PRUNE, asked of the machine's parts.
pub mod Pruning
