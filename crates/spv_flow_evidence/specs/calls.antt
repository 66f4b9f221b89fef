pub mod Evidence
pub mod inner
