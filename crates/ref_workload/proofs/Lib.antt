pub mod Bases
pub mod Cells
pub mod Crossing
pub mod EachUpTo
pub mod Marking
pub mod Naming
pub mod TextFaults
