-- The laws of the definitions, which the proofs of this crate and of those above cite.
pub mod Passes
pub mod Earliest
pub mod Search
pub mod Left
pub mod Oldest
