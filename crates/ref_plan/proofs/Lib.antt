pub mod Collected
pub mod Loops
pub mod Named
pub mod Parts
pub mod Tables
pub mod Whole
