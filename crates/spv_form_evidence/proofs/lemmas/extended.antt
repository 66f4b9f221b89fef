pub mod Counting
pub mod Calls
pub mod Sufficing
pub mod Worked
