-- Worked examples.
pub mod Lines
