-- Laws of the definitions.
pub mod Turn
