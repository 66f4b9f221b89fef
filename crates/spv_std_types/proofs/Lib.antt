pub mod Listing
pub mod Importing
pub mod Calling
pub mod Telling
pub mod Passing
pub mod Brokens
pub mod Worked
pub mod Numbers
