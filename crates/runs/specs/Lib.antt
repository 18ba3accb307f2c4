-- Runs of like bytes: how long they are, and where they lead.
pub mod Runs
