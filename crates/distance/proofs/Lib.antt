pub mod Near
pub mod Layers
pub mod Replaced
pub mod Rows
pub mod Rounds
pub mod Sums
pub mod Tally
