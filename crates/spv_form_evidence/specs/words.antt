pub mod Front
pub mod Evidence
pub mod inner
pub mod Example
