-- Laws of the definitions.
pub mod Pairs
pub mod Walk
