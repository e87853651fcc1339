-- Laws of the definitions.
pub mod Given
