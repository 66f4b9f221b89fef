-- What a look at the calls of extended instructions answers.
pub mod Outcome
