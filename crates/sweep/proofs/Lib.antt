pub mod Frontier
pub mod Walks
pub mod Words
