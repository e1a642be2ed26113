-- To be read and believed: all but Entered and HistoryLaws. IsWorld and AreBooks, in World, are what is always so.
pub mod Seen
pub mod Parts
pub mod World
pub mod References
pub mod Shares
pub mod Starts
pub mod Checkpoint
pub mod History
pub mod Theorems
-- Proved of them, for the crates above: what is always so stays so with an entry more.
pub mod Entered
pub mod HistoryLaws
