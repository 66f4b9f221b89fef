-- Definitions that serve the code alone.
pub mod Components
pub mod Found
pub mod Graph
pub mod Marks
pub mod Ordered
