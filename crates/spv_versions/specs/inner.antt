-- Definitions that serve the code alone.
pub mod Lines
pub mod Told
pub mod Shapes
pub mod Hits
pub mod Late
