-- Theorems of the definitions.
pub mod Course
pub mod Ending
pub mod Piece
