-- What the terminators and the entering of columns rest on.
pub mod Rooms
pub mod TabsBelow
