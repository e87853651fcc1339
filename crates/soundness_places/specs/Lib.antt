-- Soundness of one message, by the parts of a state that each test looks at.
pub mod Places
