pub mod Bonds
pub mod Digits
pub mod Members
pub mod Size
pub mod RowBits
pub mod Table
