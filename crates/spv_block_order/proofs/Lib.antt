mod Bridging
mod Telling
mod Using
mod Joining
pub mod Coding
mod Standing
mod Rising
mod Worked
