-- Definitions that serve the code alone.
pub mod Kept
pub mod Alone
pub mod Counting
