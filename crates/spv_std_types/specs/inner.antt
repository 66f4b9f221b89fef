-- Definitions that serve the code alone.
pub mod Failing
pub mod Looking
pub mod Table
