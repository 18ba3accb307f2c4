-- The printer: its state and memory, what is sound, what memory can hold, the rules of document 01 command by command, and its two readings:
-- byte by byte, and the whole job as a list of commands.
pub mod Tabs
pub mod Machine
pub mod Sound
pub mod Facts
pub mod Held
pub mod Closing
pub mod Numbers
pub mod Steps
pub mod Printing
pub mod Terminators
pub mod Escapes
pub mod Brackets
pub mod Plotting
pub mod Downloads
pub mod Alone
pub mod Bytes
pub mod Notes
pub mod Commands
pub mod Given
pub mod Room
pub mod Strikes
pub mod Table
