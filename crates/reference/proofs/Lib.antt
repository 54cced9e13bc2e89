pub mod Line
pub mod Table
