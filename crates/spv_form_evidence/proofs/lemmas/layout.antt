pub mod States
pub mod Opcodes
pub mod Sufficing
pub mod Finding
pub mod Telling
pub mod Worked
