-- What the layers above say of lists, Booleans and numbers, whatever they stand for, and the laws of it.
pub mod Lists
pub mod Below
pub mod Laws
