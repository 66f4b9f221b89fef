pub mod Flat
pub mod Outcome
pub mod Reading
pub mod Limits
pub mod inner
