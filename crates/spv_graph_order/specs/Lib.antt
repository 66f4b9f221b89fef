pub mod Order
pub mod Example
pub mod inner
