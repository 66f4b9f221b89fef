pub mod Graph
pub mod Path
pub mod Meet
pub mod First
pub mod Example
pub mod Way
pub mod Ring
pub mod inner
