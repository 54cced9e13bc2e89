pub mod Answers
pub mod MarkSplices
