-- The state that a desk in place holds, and laws of it.
pub mod Held
pub mod Laws
