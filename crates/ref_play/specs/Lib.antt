-- To be read and believed: Present, Machine, Runs, Given and Laws; and Plain, PlainTx, PlainAgents, PlainAtoms and PlainMakes, which say
-- in plain words what definitions of other crates mean that these cite. Sims ties the machine to what the type shows.
pub mod Present
pub mod Machine
pub mod Runs
pub mod Given
pub mod Laws
pub mod Plain
pub mod PlainTx
pub mod PlainAgents
pub mod PlainAtoms
pub mod PlainMakes
pub mod Sims
