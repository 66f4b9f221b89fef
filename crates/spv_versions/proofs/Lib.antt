pub mod Listed
pub mod Declaring
pub mod Telling
pub mod Numbering
pub mod Lateness
pub mod Shaping
pub mod Worked
pub mod Hitting
mod Fronts
mod Floors
mod Asking
mod Undated
mod Low
