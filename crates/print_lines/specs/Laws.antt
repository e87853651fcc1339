-- Laws of the lines, which the proofs of this crate and of those above cite.
pub mod Parts
