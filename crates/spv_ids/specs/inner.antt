-- Definitions that serve the code alone.
pub mod Faulty
pub mod Known
pub mod Notes
pub mod Survey
pub mod Test
pub mod Uses
pub mod Outcome
