-- Laws of the definitions.
pub mod Unread
pub mod Verdict
