-- Paper 01's number and values of an answer.
pub mod Answer
