pub mod Crossing
pub mod Tries
pub mod Sales
