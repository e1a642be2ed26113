-- To be read and believed: Lines (how replies are written), Plays (what a play reads and writes), Faults.
pub mod Lines
pub mod Plays
pub mod Faults
