-- What is true of runs of bytes.
pub mod Running
pub mod Typed
pub mod Plotted
pub mod Staged
pub mod Leading
