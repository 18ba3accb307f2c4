-- What is true of glyphs: which are well formed, what entering a character leaves, that memory can hold it, and LP2's "B" as an example.
pub mod Lengths
pub mod Strides
pub mod Each
pub mod Turns
pub mod Neighbours
pub mod WellFormed
pub mod Cells
pub mod CapitalB
pub mod Held
