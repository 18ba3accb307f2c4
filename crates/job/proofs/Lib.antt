-- What is true of the calls' code.
pub mod Underway
pub mod Offering
pub mod CodeCutting
pub mod CodeDots
