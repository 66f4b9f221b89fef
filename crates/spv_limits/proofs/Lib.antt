pub mod Deep
pub mod Deepest
pub mod Modes
pub mod Passing
pub mod Locals
pub mod Steps
pub mod Worked
