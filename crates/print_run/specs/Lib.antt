-- The printed run of a log, whole and in pieces, what the code leaves of it, and the laws of it. Paper 01, "The printed run".
pub mod Run
pub mod Printed
pub mod Wholes
pub mod Pieces
pub mod Laws
