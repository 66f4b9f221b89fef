pub mod Chain
pub mod Calls
pub mod Broken
pub mod Example
pub mod inner
