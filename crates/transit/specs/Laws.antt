-- The laws of the definitions, which the proofs of this crate and of those above cite.
pub mod Order
pub mod Pairs
pub mod Operations
pub mod Removed
pub mod Columns
pub mod Held
pub mod Links
pub mod Put
pub mod Take
pub mod Messages
pub mod Mail
pub mod Sent
pub mod Places
pub mod Appended
pub mod Loads
pub mod Promise
