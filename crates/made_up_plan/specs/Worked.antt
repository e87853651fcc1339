-- Worked examples of the definitions, each computed.
pub mod Plan
