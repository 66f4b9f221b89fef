pub mod Suffices
pub mod Worked
pub mod Models
pub mod Needed
pub mod Calling
pub mod Importing
pub mod Ruled
