-- Definitions that serve the code alone.
pub mod Passed
pub mod Spanning
pub mod Limits
pub mod Upper
