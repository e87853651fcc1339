-- Soundness of the unread messages, by the parts of a state that each test looks at, and laws of it.
pub mod Laws
pub mod Messages
