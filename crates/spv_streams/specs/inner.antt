-- Definitions that serve the code alone.
pub mod Content
pub mod Ending
pub mod Put
