pub mod Molecules
pub mod Table
pub mod Text
