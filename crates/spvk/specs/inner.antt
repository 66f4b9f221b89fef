pub mod Faulty
pub mod Making
pub mod Refusal
