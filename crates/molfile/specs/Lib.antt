pub mod Elements
pub mod Lines
pub mod Molfile
pub mod Parts
pub mod Text
