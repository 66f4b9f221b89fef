pub mod Marked
pub mod Gathering
pub mod Placed
pub mod Firsts
pub mod Bits
pub mod Sound
pub mod Knowing
pub mod Worked
