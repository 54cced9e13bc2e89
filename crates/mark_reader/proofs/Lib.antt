pub mod Layouts
pub mod BondReading
pub mod Stored
pub mod Answers
