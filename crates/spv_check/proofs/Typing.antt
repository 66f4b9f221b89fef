pub mod Firsts
pub mod Worked
pub mod Operations
pub mod Outcomes
