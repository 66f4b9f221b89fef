-- Definitions that serve the code alone.
pub mod Before
pub mod Failed
