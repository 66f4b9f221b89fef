-- Definitions that serve the code alone.
pub mod Answered
pub mod Asked
pub mod Assembly
pub mod Late
pub mod Progress
pub mod Shown
pub mod Traced
