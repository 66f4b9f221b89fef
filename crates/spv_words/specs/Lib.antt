pub mod Count
pub mod Example
pub mod Header
pub mod Streams
pub mod Version
pub mod Words
pub mod inner
