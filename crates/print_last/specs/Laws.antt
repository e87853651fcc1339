-- Laws of the definitions.
pub mod Last
