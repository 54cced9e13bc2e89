pub mod Levels
pub mod Parts
