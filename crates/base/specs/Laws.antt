-- The laws of the definitions.
pub mod Tests
pub mod Lists
pub mod Ranges
pub mod Rising
pub mod Numbers
pub mod Below
pub mod Tabulate
pub mod Stores
