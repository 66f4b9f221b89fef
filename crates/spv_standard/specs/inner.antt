-- Definitions that serve the code alone.
pub mod Alone
pub mod Asked
pub mod Earlier
pub mod First
pub mod Found
pub mod Silent
pub mod Told
