-- Definitions that serve the code alone.
pub mod Adds
pub mod Free
pub mod Marks
pub mod Names
pub mod Rows
