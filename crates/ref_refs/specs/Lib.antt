-- To be read and believed: Seen, Commit, Ready, Watches, Make, and of Conflicts the first two definitions, the rest of which is
-- proved. Rules, Smaller, Late, Chained and Falls are for private functions.
pub mod Seen
pub mod Rules
pub mod Watches
pub mod Smaller
pub mod Commit
pub mod Ready
pub mod Conflicts
pub mod Make
pub mod Late
pub mod Chained
pub mod Falls
pub mod Drafts
pub mod Kept
