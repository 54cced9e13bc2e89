pub mod Place
pub mod Entries
pub mod Mark
pub mod OldMark
pub mod Forms
