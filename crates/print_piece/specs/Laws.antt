-- Laws of the definitions.
pub mod Ran
