pub mod Signatures
pub mod Keys
pub mod Places
pub mod Firsts
pub mod Counting
pub mod Adding
pub mod Pointers
pub mod Same
pub mod Slots
pub mod Repeating
pub mod Concerns
pub mod Turns
pub mod Parted
mod Worked
pub mod lemmas
pub mod Lengths
mod Objects
