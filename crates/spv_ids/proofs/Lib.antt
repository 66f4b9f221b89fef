mod Bools
mod Defined
mod Defining
mod Homes
mod Steps
mod Leasts
mod Behind
mod Broke
mod Scopes
pub mod Used
mod Starts
mod Sound
mod Opens
mod Noting
mod Passing
mod Sections
mod Globals
