-- The laws on refusals 10, 12, 13, 15 and 16, on LOGs that append nothing, on what alters an image, on wasted fences, the log's sum,
-- evictions of lines, and demand 3 over calls that log many cells.
pub mod RefusalLaws
pub mod PrunedRegions
pub mod KeptOnly
pub mod WastedFence
pub mod LogSum
pub mod AnyEviction
pub mod RetiredEvict
pub mod Calls
