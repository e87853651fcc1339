-- Text on a page: numbers as text, what it is to put a text on a page, and the laws of both.
pub mod Text
pub mod Ascii
pub mod Put
pub mod Laws
