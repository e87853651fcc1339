-- The laws of a printed run: what stands in a part of a log, the whole records of a log, its text, and a run as a list of steps.
pub mod Window
pub mod Wholes
pub mod Text
pub mod Readings
