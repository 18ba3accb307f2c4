-- What downloads and form settings rest on.
pub mod Copying
pub mod Reforming
