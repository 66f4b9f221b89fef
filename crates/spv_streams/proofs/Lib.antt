pub mod Carries
pub mod Parts
pub mod Replies
pub mod Tasks
pub mod Troubles
pub mod Worked
pub mod Written
