pub mod Interface
pub mod Broken
pub mod Example
pub mod inner
