pub mod Found
pub mod Held
pub mod Lines
