-- The boundary: what the calls of another language give back.
pub mod Calls
