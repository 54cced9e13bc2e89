pub mod Record
pub mod BondList
pub mod Parts
pub mod Ends
