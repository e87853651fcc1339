-- The kinds of the step log, the record at a position of it, the parts of a record, and laws of these.
pub mod Kind
pub mod Kinds
pub mod Laws
pub mod Parts
pub mod Record
pub mod Refused
pub mod Worked
