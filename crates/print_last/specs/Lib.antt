-- The last lines of a run, and laws of them.
pub mod Last
pub mod Laws
