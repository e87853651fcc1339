-- Worked examples, computed from the definitions: what a list of steps comes to, what the claim says of it, and what the claim counts.
pub mod Account
pub mod Result
pub mod Unbroken
pub mod Counted
pub mod Unlanded
pub mod Listing
pub mod Overlapping
pub mod Restarts
pub mod Full
pub mod Numbers
