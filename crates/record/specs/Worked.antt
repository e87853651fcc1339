-- Worked examples of the definitions, each computed.
pub mod Parts
pub mod Records
