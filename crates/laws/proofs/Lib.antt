-- Proofs of what specs/ claims, in the groups and the order of docs/PROOF.md.
-- refusal 16
pub mod PrunedLaw
-- refusals
pub mod JoinedSteps
pub mod HolderLaw
pub mod LoggedLaw
pub mod RepeatLaw
pub mod FinishedLaw
-- persisted contents
pub mod KeptOnlyHolds
-- wasted fences
pub mod WastedFence
-- log's sum
pub mod LogSumHolds
-- evictions of lines
pub mod RetiredEvictHolds
pub mod AnyEvictionHolds
-- calls that log many cells
pub mod CallsRecover
