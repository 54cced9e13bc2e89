pub mod Entered
pub mod Joined
pub mod Continued
pub mod Reached
pub mod Stands
pub mod Demand3
pub mod FromMark
pub mod Each
