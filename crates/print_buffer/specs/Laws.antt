-- Laws of the definitions.
pub mod Buffer
