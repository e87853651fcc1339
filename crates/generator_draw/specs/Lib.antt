-- The generator's words, laws of them, and worked examples.
pub mod Draw
pub mod Laws
pub mod Worked
