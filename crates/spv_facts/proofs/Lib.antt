pub mod Joined
mod Malformed
pub mod Opcodes
pub mod Parts
pub mod Placed
pub mod Steps
pub mod Told
mod Lent
