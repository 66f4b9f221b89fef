-- Definitions that serve the code alone.
pub mod Found
pub mod Tests
pub mod Walk
pub mod Parts
pub mod Definitions
pub mod Reach
pub mod Types
pub mod Meaning
pub mod Null
pub mod Matching
