pub mod Evidence
pub mod Example
