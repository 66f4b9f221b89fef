pub mod Table
pub mod Counted
pub mod Depth
pub mod Past
pub mod Broken
pub mod Example
pub mod inner
