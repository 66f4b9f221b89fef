pub mod Role
pub mod Broken
pub mod Outcome
pub mod Example
pub mod inner
