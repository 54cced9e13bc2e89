pub mod Levels
pub mod Stages
pub mod Listings
pub mod Descents
pub mod Entries
