pub mod Arrays
pub mod Bytes
pub mod Gaps
