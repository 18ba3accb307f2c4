-- What is true of states kept as words.
pub mod Ranges
pub mod Kept
pub mod Reading
pub mod Writing
pub mod Resting
