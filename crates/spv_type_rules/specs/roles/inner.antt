-- Definitions that serve the code alone.
pub mod Asked
pub mod Known
pub mod Role
