pub mod Arrays
pub mod Rings
pub mod Paths
pub mod Plans
pub mod Opens
pub mod Molecules
pub mod Steps
pub mod Aims
