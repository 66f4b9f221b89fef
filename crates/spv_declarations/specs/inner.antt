-- Definitions that serve the code alone.
pub mod BuiltIn
pub mod Early
pub mod First
pub mod Initialized
pub mod Kinds
pub mod Misplaced
pub mod Named
pub mod Said
pub mod Second
pub mod Sets
pub mod Shown
pub mod Spans
pub mod Table
