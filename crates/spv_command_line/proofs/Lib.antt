pub mod Asking
pub mod Numerals
pub mod OneCommand
pub mod Table
