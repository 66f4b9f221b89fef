pub mod Minor
pub mod Scope
pub mod Told
