-- A number in decimal as the library writes it.
pub mod Written
