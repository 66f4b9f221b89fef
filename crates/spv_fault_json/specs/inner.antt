-- Definitions that serve the code alone.
pub mod Texts
