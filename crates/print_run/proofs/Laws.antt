-- The laws of a printed run that wrong definitions are refused by: how a run ends, the run by steps, and runs in pieces.
pub mod Ending
pub mod Steps
pub mod Pieces
