-- The lines of a printed run, the laws of them, and worked examples.
pub mod Lines
pub mod Laws
pub mod Worked
