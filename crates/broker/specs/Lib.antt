-- The state of paper 01, "Names and places", as definitions.
pub mod Names
pub mod Ranks
pub mod State
