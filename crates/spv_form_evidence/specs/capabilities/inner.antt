-- Definitions that serve the code alone.
pub mod Models
pub mod Bits
pub mod Operands
pub mod Calls
pub mod Imports
