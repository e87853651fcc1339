-- Where the program `replay` stands, what each of its calls does to that, what it says as it ends, and laws of these.
pub mod Laws
pub mod Stage
pub mod Words
