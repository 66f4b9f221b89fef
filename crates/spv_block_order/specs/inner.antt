-- Definitions that serve the code alone.
pub mod First
pub mod Uses
pub mod Rising
