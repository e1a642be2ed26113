-- To be read and believed: Words.
pub mod Words
