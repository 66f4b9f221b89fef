-- Definitions that serve the code alone.
pub mod Fronts
pub mod Places
pub mod Slots
