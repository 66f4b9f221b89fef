-- Definitions that serve the code alone.
pub mod First
pub mod Wanted
pub mod Uses
pub mod Marks
pub mod Entries
pub mod Early
pub mod Counted
pub mod Cleared
pub mod Turned
pub mod Lacking
