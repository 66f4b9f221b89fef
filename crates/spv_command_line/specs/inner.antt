-- Definitions that serve the code alone.
pub mod CommandLine
pub mod Program
pub mod Reading
