-- What the numbers of a roster stand for, the state that it holds, and laws of both.
pub mod Laws
pub mod Loaded
pub mod Numbers
pub mod Roster
