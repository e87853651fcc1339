-- Laws of the definitions.
pub mod Step
