-- To be read and believed: Bodies, Commits, Sinks, Waits, Faults, Gather and Theorems. Latest and Marks are invariants of loops.
pub mod Bodies
pub mod Commits
pub mod Sinks
pub mod Waits
pub mod Faults
pub mod Gather
pub mod Theorems
pub mod Latest
pub mod Marks
