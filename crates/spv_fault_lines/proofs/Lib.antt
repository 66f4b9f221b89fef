pub mod Alone
mod Spaced
