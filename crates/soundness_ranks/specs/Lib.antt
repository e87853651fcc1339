-- Soundness of the ranks one by one, by the parts of a state that each test looks at.
pub mod Ranks
