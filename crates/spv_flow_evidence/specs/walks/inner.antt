-- Definitions that serve the code alone.
pub mod Asked
pub mod Way
pub mod Shown
