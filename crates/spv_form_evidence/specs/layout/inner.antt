-- Definitions that serve the code alone.
pub mod Automaton
pub mod Told
