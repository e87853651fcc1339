-- The laws of the definitions that wrong definitions are refused by.
pub mod Laws
pub mod Worked
