pub mod text_fault
