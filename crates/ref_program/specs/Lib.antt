-- To be read and believed: Stamps, Seen, Done and Values.
pub mod Done
pub mod Seen
pub mod Stamps
pub mod Values
