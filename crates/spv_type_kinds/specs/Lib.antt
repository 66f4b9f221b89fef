pub mod Operands
pub mod Example
