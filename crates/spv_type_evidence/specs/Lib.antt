pub mod types
