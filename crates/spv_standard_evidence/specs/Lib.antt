pub mod Operands
pub mod Declarations
pub mod Order
pub mod Versions
pub mod Limits
pub mod Interfaces
pub mod Evidence
pub mod inner
