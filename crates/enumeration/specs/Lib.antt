pub mod Words
pub mod Machine
pub mod Run
pub mod Lawful
pub mod Listing
pub mod Trials
pub mod RunFacts
pub mod Makes
