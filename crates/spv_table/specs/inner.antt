-- Definitions that serve the code alone.
pub mod Constants
pub mod Entries
pub mod Enumerants
pub mod Form
pub mod Front
pub mod Joined
pub mod Listed
pub mod Name
pub mod NameListRef
pub mod Named
pub mod Pattern
pub mod Places
pub mod Reached
pub mod Results
pub mod Rows
pub mod Sorts
