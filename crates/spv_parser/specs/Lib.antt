pub mod Reason
pub mod Example
pub mod inner
