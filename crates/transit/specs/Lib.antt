-- The definitions that the contracts cite, and the laws of them that the crates above cite.
pub mod Message
pub mod Unread
pub mod Columns
pub mod Slots
pub mod Index
pub mod Mail
pub mod InPlace
pub mod Sent
pub mod Pick
pub mod Search
pub mod Opened
pub mod Laws
