pub mod Reaching
pub mod Sufficing
pub mod Walking
pub mod Preceding
pub mod Dying
pub mod Worked
pub mod Halting
pub mod Unique
