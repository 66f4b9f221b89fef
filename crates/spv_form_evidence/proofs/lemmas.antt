pub mod capabilities
pub mod extended
pub mod ids
pub mod layout
pub mod words
