-- Laws of the definitions that the contracts cite.
pub mod Desk
pub mod Settled
