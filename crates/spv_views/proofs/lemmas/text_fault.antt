pub mod Characters
pub mod Told
