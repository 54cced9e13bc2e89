pub mod Every
pub mod Chordless
