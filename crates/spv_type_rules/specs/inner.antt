-- Definitions that serve the code alone.
pub mod Concern
pub mod Turn
pub mod Constant
pub mod Counted
pub mod Declaration
pub mod Found
pub mod Function
pub mod Keeps
pub mod Repeat
pub mod Key
pub mod Print
pub mod Slots
pub mod Seen
pub mod Rules
