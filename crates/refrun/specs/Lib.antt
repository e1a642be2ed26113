-- To be read and believed: all of them.
pub mod Inputs
pub mod Auditing
pub mod Looking
pub mod Naming
pub mod Checking
pub mod Printing
pub mod Lines
pub mod Tasks
pub mod Commands
pub mod Serving
