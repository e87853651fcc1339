-- The laws of the definitions, and worked examples.
pub mod Laws
pub mod Worked
