pub mod Bytes
pub mod Contracts
pub mod Whole
pub mod Ends
pub mod Joined
pub mod Laws
pub mod Printing
