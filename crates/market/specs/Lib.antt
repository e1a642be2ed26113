-- To be read and believed: Acts.
pub mod Acts
