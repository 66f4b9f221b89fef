pub mod Definition
pub mod Order
pub mod Broken
pub mod Outcome
pub mod Sound
pub mod Example
pub mod inner
