-- Definitions that serve the code alone.
pub mod Bodies
pub mod At
pub mod Trace
