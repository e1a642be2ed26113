-- To be read and believed: Pieces. Laws is proved of it.
pub mod Pieces
pub mod Laws
