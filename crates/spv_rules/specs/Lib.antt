pub mod Codes
pub mod Errors
pub mod Rules
pub mod Table
pub mod inner
