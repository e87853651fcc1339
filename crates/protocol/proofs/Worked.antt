-- Worked examples of the definitions, each computed.
pub mod Restart
pub mod Spent
