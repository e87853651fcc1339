-- Worked examples of the definitions.
pub mod Answer
pub mod MadeUp
pub mod Records
