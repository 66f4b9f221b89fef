pub mod Table
pub mod Named
pub mod Missing
pub mod Broken
pub mod Example
pub mod inner
