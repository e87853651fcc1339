-- The order of sending over all pairs, and a receiver that goes by its looks: the claims about them over lists of steps, their proofs, and
-- a worked example. Paper 02, change 6.
pub mod Sending
pub mod Served
