pub mod branches
pub mod calls
pub mod walks
