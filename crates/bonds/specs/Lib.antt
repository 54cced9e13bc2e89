pub mod Bonds
pub mod Parts
pub mod Reading
