-- Laws of the definitions.
pub mod Argument
