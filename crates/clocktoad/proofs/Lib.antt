-- What is true of the calls over states kept as words.
pub mod Calling
