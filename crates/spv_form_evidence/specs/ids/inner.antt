pub mod Uses
pub mod Casts
pub mod Range
pub mod Known
pub mod Undefined
pub mod Order
pub mod Scope
