-- Laws of numbers as text and of texts on a page, which the proofs of this crate and of those above cite.
pub mod Text
pub mod Put
