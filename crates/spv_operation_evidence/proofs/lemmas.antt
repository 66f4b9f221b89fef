pub mod Sufficing
pub mod Knowing
pub mod Valued
pub mod Listing
