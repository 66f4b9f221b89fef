pub mod Blocks
pub mod Looking
pub mod Marked
pub mod Naming
pub mod Known
pub mod Rules
