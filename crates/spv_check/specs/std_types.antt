-- What a look at the types of the calls of OpenCL.std answers.
pub mod Outcome
