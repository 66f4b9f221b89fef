pub mod Rank
pub mod inner
