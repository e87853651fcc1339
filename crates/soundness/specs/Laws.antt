-- The laws of the definitions, which the proofs of this crate cite.
pub mod Sound
