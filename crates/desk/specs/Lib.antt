-- The state that a desk in place holds, what the kinds promise of it, and laws of these.
pub mod Desk
pub mod Laws
