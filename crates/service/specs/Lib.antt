-- To be read and believed: Errors.
pub mod Errors
