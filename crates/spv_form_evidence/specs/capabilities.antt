pub mod Evidence
pub mod Example
pub mod inner
