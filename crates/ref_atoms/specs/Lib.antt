-- To be read and believed: all.
pub mod Atoms
pub mod Change
