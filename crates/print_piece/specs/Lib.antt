-- What a run of a piece comes to, and laws of it.
pub mod Laws
pub mod Ran
