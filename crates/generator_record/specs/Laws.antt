-- Laws of the definitions.
pub mod Body
