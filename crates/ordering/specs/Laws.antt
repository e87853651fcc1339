-- The proof of the claim: induction along a list, the first half, the second list and what stands in it, and last the theorem.
pub mod Runs
pub mod Balance
pub mod First
pub mod Numbers
pub mod Following
pub mod Stands
pub mod Sends
pub mod Second
pub mod Ordering
pub mod Open
pub mod Counts
