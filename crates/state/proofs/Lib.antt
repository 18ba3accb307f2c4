-- Which way a choice goes, and a rule obeyed from a state that a call gave; sound forms, and the bits of a word.
pub mod Forms
pub mod Going
pub mod Tests
pub mod Words
