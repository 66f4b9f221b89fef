pub mod Finding
pub mod View
pub mod inner
pub mod text_fault
