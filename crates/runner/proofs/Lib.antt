pub mod Turns
pub mod Trials
pub mod Skips
pub mod Dives
pub mod Answers
