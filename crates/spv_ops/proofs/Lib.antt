mod TagTests
mod TwoTypes
pub mod Rows
pub mod Parting
pub mod Chaining
pub mod Pointing
pub mod Constructed
pub mod Parts
pub mod ValuePlaces
pub mod Enqueued
pub mod Copying
pub mod Judged
pub mod Held
mod Worked
mod CommonRows
