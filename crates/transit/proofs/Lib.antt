-- What the proofs of several functions cite.
pub mod Slots
pub mod Laws
