-- To be read and believed: Limits, Told (what a refused call returns), Replay, Tally, Fold, Watches, Guards, Make.
-- Laws, TallyLaws, FoldLaws and Called are proved, for the owner of a log.
pub mod Limits
pub mod Told
pub mod Replay
pub mod Tally
pub mod Fold
pub mod Watches
pub mod Guards
pub mod Make
pub mod Laws
pub mod FoldLaws
pub mod TallyLaws
pub mod Called
