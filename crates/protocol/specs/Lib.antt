-- Paper 01 as definitions, from "Sound states" to "Where each step is checked", and theorems of them.
pub mod Checks
pub mod Connect
pub mod Done
pub mod Edges
pub mod Laws
pub mod Life
pub mod Messages
pub mod Migrate
pub mod Sound
pub mod Step
pub mod Values
