-- Definitions that serve the code alone.
pub mod Operands
pub mod Declarations
pub mod Limits
pub mod Versions
pub mod Placements
pub mod Interfaces
