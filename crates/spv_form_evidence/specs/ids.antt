pub mod Evidence
pub mod Roles
pub mod inner
pub mod Example
