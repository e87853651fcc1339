-- What a program has read and written that takes turns, and laws of it.
pub mod Course
pub mod Laws
