pub mod Printing
pub mod Sound
pub mod Text
pub mod Turns
