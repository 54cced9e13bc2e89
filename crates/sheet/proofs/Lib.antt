pub mod Accepted
pub mod Answers
pub mod Complete
pub mod EveryRecord
pub mod Lines
pub mod Numbers
pub mod Reading
pub mod Refills
