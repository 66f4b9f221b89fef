-- Definitions that serve the code alone.
pub mod File
pub mod FileLookups
pub mod Made
