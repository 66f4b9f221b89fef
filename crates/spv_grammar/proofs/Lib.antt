pub mod Fronts
pub mod Hex
pub mod Latest
pub mod Firsts
pub mod Whole
pub mod Apart
pub mod Elements
mod Turns
mod Ranges
mod Trimmed
pub mod Again
