-- Soundness of vmids, by the parts of a state that each test looks at.
pub mod Names
