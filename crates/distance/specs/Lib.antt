pub mod Layers
pub mod Capped
