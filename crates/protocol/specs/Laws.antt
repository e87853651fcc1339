-- Theorems of the definitions.
pub mod Cases
pub mod Changes
pub mod Checks
pub mod Core
pub mod Counts
pub mod Each
pub mod Effect
pub mod Fit
pub mod Leaving
pub mod Links
pub mod Names
pub mod Opened
pub mod Ranks
pub mod Sound
pub mod Standings
pub mod State
pub mod View
