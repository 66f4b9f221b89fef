pub mod Condition
pub mod Table
pub mod Mistyped
pub mod Broken
pub mod Example
pub mod inner
