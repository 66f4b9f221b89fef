pub mod Sufficing
pub mod Worked
pub mod Labels
pub mod Walks
pub mod Paired
pub mod Asked
pub mod Showing
