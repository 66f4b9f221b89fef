-- Definitions that serve the code alone.
pub mod HeaderTest
pub mod Pending
