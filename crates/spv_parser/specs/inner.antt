-- Definitions that serve the code alone.
pub mod Fast
pub mod Heading
pub mod Kept
pub mod Lines
pub mod Reading
pub mod Seen
pub mod Stopping
