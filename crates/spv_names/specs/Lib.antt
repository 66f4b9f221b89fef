pub mod Chosen
pub mod Example
pub mod Names
pub mod inner
