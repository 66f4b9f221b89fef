pub mod Target
pub mod Walk
pub mod Ready
pub mod Broken
pub mod Found
pub mod Example
pub mod inner
