-- What an argument says, laws of it, and worked examples.
pub mod Argument
pub mod Laws
pub mod Worked
