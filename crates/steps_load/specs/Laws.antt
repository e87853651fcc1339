-- Laws of the definitions.
pub mod Held
