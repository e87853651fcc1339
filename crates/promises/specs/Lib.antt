-- Everything that is promised of the desk, and the laws by which a promise is read off what is proved below.
pub mod Entries
pub mod Laws
pub mod Promises
pub mod Words
