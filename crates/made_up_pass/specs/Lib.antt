-- The pieces in which a pass is made and how its writing ends, laws of these, and worked examples.
pub mod Course
pub mod Ending
pub mod Laws
pub mod Piece
pub mod Worked
