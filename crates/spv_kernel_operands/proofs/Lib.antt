pub mod Valued
pub mod Misscopes
pub mod Images
pub mod Firsts
pub mod Lines
pub mod Quiet
pub mod Literals
pub mod Worked
