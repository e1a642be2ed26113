pub mod EntriesCalled
pub mod FirstFaults
pub mod Guarded
pub mod Kept
pub mod LastChanges
