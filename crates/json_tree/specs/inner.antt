pub mod Stored
pub mod Run
