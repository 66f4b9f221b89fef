-- Definitions that serve the code alone.
pub mod First
pub mod Seats
pub mod Scopes
pub mod Switch
