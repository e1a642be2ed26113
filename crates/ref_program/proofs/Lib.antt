pub mod Bodies
pub mod Crossing
pub mod Members
pub mod Sums
