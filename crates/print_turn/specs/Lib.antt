-- What a turn comes to, and laws of it.
pub mod Laws
pub mod Turn
