-- Laws of the page of promises.
pub mod Entries
pub mod Looks
pub mod Rows
pub mod Shown
pub mod Turn
