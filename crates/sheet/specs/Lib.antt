pub mod OtherFillings
pub mod Parts
pub mod Read
pub mod Text
