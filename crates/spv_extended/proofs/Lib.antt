pub mod Finding
pub mod Brokens
pub mod Once
pub mod Parting
pub mod Missing
pub mod Calling
