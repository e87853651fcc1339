-- A step in place, and laws of it.
pub mod InPlace
pub mod Laws
