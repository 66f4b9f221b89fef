pub mod BuiltIn
pub mod Source
pub mod Text
pub mod inner
