-- What is done by the arguments, and worked examples.
pub mod Plan
pub mod Worked
