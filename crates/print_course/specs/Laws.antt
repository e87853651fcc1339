-- Laws of the definitions.
pub mod Course
pub mod Runs
