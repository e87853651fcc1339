-- The laws that the proofs of this crate cite.
pub mod Columns
pub mod Loaded
pub mod Numbers
pub mod Stores
