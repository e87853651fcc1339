-- What is said of wrong arguments.
pub mod Words
