pub mod Beside
pub mod Evidence
pub mod Broken
pub mod inner
