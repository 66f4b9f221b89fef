pub mod Capable
pub mod Memory
pub mod Entry
pub mod Asked
pub mod Keeps
pub mod Example
pub mod inner
