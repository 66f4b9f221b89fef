pub mod Broken
pub mod Example
pub mod inner
