-- To be read and believed: Words, Acts and Documents (which data is a list of events, and what it says). Reading is for private
-- functions.
pub mod Words
pub mod Acts
pub mod Documents
pub mod Reading
