-- Laws of the definitions.
pub mod Record
