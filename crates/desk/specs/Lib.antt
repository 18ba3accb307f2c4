-- What a desk lends to a call.
pub mod Lending
