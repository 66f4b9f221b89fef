pub mod Drafting
pub mod Gathered
pub mod Groups
pub mod Refusal
pub mod Replacing
pub mod Standing
pub mod Turning
pub mod Written
