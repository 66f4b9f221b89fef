pub mod Accessed
pub mod Casting
pub mod Worked
pub mod Asking
pub mod Noted
