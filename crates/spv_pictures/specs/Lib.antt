pub mod Label
pub mod Function
pub mod Calls
pub mod Blocks
pub mod Reading
pub mod Example
pub mod inner
