pub mod Number
pub mod Answers
