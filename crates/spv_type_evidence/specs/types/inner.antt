pub mod Known
pub mod Differences
pub mod First
pub mod Operands
