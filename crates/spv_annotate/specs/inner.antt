-- Definitions that serve the code alone.
pub mod Numbers
pub mod Edges
pub mod Values
pub mod Known
pub mod Standing
pub mod Task
pub mod Linked
pub mod Draft
pub mod Look
pub mod Uses
pub mod Tame
pub mod Buffer
pub mod Seen
