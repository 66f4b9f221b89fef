-- Definitions that serve the code alone.
pub mod Capable
pub mod Entry
pub mod Known
pub mod Survey
pub mod Subject
pub mod Unkinded
