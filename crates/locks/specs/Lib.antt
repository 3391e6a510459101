-- Locks, and ACQUIRE, LOGREL and RELEASE, asked of the machine's parts.
pub mod Locks
pub mod LockSteps
