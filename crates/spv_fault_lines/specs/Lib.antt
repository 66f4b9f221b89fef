pub mod Classes
pub mod Lines
pub mod Refused
pub mod inner
