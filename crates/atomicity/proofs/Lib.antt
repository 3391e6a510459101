-- Proofs of what specs/ claims, in the groups and the order of docs/PROOF.md. The node names the whole; files may use later ones.
-- entries
pub mod Logged
-- locks
pub mod Locks
-- order
pub mod Leads
pub mod Places
pub mod Times
pub mod EntrySteps
-- races
pub mod Ordered
pub mod Epochs
pub mod Knowledge
pub mod ClockInvariant
pub mod AccessInvariant
pub mod Holding
pub mod Follows
pub mod HistoryRuns
pub mod RaceTests
pub mod Repeats
pub mod StepsFollow
pub mod RaceLaw
-- cells
pub mod Cells
pub mod OldestLive
-- reference model
pub mod BookLaws
pub mod Regions
pub mod RegionsAppend
pub mod RegionsPrune
pub mod Writes
-- refusal 16
pub mod ReleaseSteps
pub mod PrunedCounts
-- all together
pub mod LogViews
pub mod MachineInvariant
pub mod QuietStepsKeep
pub mod AppendsKeep
pub mod ReleaseKeeps
pub mod PruneKeeps
pub mod RunInvariant
pub mod RunInvariantHolds
-- undoing
pub mod Undoable
pub mod UndoKeeps
pub mod Undoing
pub mod UndoExample
-- image
pub mod Recovered
-- demand 3
pub mod Demand3Holds
