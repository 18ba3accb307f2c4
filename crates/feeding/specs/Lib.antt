-- Feeding for programs in other languages.
pub mod Feeding
