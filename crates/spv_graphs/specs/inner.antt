-- Definitions that serve the code alone.
pub mod Ahead
pub mod Dominators
pub mod Edges
pub mod First
pub mod Open
pub mod Order
pub mod Rows
pub mod Spanning
pub mod Steps
