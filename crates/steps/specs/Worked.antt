-- Worked examples.
pub mod Outcome
