-- To be read and believed: Snapshots, Seen, Inner. Laws are proved; Own and Starts are for private functions and proofs.
pub mod Snapshots
pub mod Seen
pub mod Inner
pub mod Own
pub mod Starts
pub mod Laws
