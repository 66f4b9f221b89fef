pub mod Fronts
pub mod Stopping
pub mod Paths
pub mod Places
pub mod Shares
pub mod Listing
pub mod Direct
