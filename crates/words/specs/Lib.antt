-- A state kept as words.
pub mod Words
