-- Laws of the definitions.
pub mod Marks
pub mod Messages
pub mod Pass
pub mod Rising
