mod AllCodes
mod ErrorRows
mod Indented
mod Named
mod Rows
pub mod Walk
