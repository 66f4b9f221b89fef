pub mod Members
pub mod Quiet
pub mod Tokens
pub mod inner
