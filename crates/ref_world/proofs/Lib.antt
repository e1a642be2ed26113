pub mod Counted
pub mod Refusals
pub mod Starting
pub mod Crossing
pub mod Folded
pub mod Cut
pub mod Legal
