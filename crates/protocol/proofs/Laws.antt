-- Theorems of the definitions.
pub mod Accepted
pub mod Accepts
pub mod Alike
pub mod CoreStep
pub mod Edges
pub mod Kept
pub mod Migrating
pub mod Quiet
pub mod Restart
pub mod Step
pub mod Values
