-- Checks made in turn, the tests that most kinds share, and laws of these.
pub mod Laws
pub mod Tests
pub mod Verdict
