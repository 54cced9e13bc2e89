pub mod Codes
pub mod Searches
