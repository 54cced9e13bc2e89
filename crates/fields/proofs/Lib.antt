pub mod Digits
pub mod Blanks
pub mod Zeros
pub mod Laws
pub mod Turns
pub mod Places
