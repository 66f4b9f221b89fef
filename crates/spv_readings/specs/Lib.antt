pub mod Named
pub mod Reads
pub mod Values
pub mod Chain
pub mod Path
pub mod Example
