-- What is true of feeding over words.
pub mod Feeding
