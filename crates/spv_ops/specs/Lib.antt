pub mod Table
pub mod Values
pub mod Typed
pub mod Example
pub mod inner
