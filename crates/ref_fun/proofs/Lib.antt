pub mod Kept
pub mod CoreCodes
pub mod Shallower
pub mod OwnCodes
