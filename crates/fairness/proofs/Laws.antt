-- The proofs of the claims.
pub mod Sending
pub mod Served
pub mod Named
