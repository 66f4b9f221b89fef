-- Definitions that serve the code alone.
pub mod Finding
pub mod Viewed
pub mod Beginning
