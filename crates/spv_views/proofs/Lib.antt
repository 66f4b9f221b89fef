pub mod Viewings
pub mod Verdicts
pub mod lemmas
pub mod Beginnings
