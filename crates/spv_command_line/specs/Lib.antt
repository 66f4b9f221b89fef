pub mod CommandLine
pub mod Number
pub mod inner
