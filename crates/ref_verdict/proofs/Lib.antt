pub mod Early
pub mod Lists
pub mod OfCore
pub mod Differences
pub mod Folds
pub mod Maps
pub mod Read
pub mod Needed
