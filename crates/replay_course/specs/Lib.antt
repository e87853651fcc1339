-- A turn of the program `replay`, how it goes on in a course, and laws of these.
pub mod Advances
pub mod Course
pub mod Laws
