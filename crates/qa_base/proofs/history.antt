-- Lemmas about tolerated runs: their packets in order, what one more event makes of them, and what a sender does.
pub mod Pairs
pub mod ToleratedRuns
pub mod Thresholds
pub mod Settled
pub mod Deadline
pub mod Detection
pub mod Changes
pub mod Closing
pub mod LostNow
pub mod Forgotten
pub mod Walks
pub mod Persistence
pub mod Forward
pub mod Sending
pub mod KeptCount
pub mod Awaiting
