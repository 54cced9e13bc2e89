pub mod Answers
pub mod Bits
pub mod Cells
pub mod Filling
pub mod Record
pub mod Same
pub mod Stored
pub mod Tables
