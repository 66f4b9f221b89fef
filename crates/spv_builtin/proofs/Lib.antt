pub mod Computed
pub mod Fronts
pub mod Held
pub mod Places
pub mod Rows
pub mod Told
pub mod Trees
