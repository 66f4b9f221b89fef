-- Definitions that serve the code alone.
pub mod Kept
pub mod Kinds
pub mod Single
pub mod Span
pub mod State
pub mod Test
pub mod Row
pub mod Shape
pub mod Layout
pub mod Outcome
pub mod Unkinded
pub mod Pass
