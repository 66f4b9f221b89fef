pub mod Definitions
pub mod Outcome
pub mod Example
