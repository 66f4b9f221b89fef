-- Definitions that serve the code alone.
pub mod Names
pub mod Printer
pub mod Fast
pub mod Image
pub mod Written
