-- Definitions that serve the code alone.
pub mod Parts
pub mod Owned
