-- What a byte does.
pub mod Acting
