-- To be read and believed: all, but for Marks, Places and Indexed, and for what Agents says of sends that are taken back, which are for
-- private types and functions.
pub mod Account
pub mod Jobs
pub mod Agents
pub mod Carried
pub mod Make
pub mod Ends
pub mod Marks
pub mod Places
pub mod Indexed
