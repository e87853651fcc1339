-- The law that the tests of the parts of a state together are soundness.
pub mod Laws
