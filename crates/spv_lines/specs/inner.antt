-- Definitions that serve the code alone.
pub mod Answer
pub mod Narrow
pub mod Quoted
pub mod Control
