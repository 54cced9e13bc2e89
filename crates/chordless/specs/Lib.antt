pub mod Families
pub mod Reach
pub mod Steers
pub mod Distance
