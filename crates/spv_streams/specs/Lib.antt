pub mod Begin
pub mod Each
pub mod Run
pub mod inner
