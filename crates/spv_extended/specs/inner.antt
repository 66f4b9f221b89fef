-- Definitions that serve the code alone.
pub mod Found
pub mod Parts
