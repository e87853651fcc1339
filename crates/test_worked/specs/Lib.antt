-- The states of the list that `crates/test_spoiled` reads, but for its last section, and of each the theorem that it is sound or unsound.
pub mod Words
pub mod Unsound
pub mod Filled
pub mod Whole
pub mod Names
pub mod Pairs
pub mod Messages
