-- Laws of the definitions.
pub mod Draw
