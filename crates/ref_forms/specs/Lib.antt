-- To be read and believed: Plain, Calls, References (what forms say) and Names. Laws are proved, for a proof about forms. Reading says how a
-- form is read.
pub mod Plain
pub mod Calls
pub mod References
pub mod Names
pub mod Reading
pub mod Laws
