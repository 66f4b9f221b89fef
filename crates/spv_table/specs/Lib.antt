pub mod Table
pub mod Lookups
pub mod Implied
pub mod Span
pub mod Rows
pub mod Example
pub mod inner
