-- Definitions that serve the code alone.
pub mod Code
pub mod Edges
pub mod Graph
pub mod Labels
pub mod Target
