pub mod Functions
pub mod Counts
pub mod Refusals
