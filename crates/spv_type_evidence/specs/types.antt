pub mod Declaration
pub mod Constant
pub mod Function
pub mod Evidence
pub mod Broken
pub mod Example
pub mod inner
