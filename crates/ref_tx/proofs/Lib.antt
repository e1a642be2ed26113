pub mod Grown
pub mod Kept
pub mod Tabled
pub mod Versions
