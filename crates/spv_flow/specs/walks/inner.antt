-- Definitions that serve the code alone.
pub mod Adds
pub mod Code
pub mod Divided
pub mod Due
pub mod Leading
pub mod Unavailable
pub mod Starts
