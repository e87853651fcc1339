-- The rest of a buffer at its front, and laws of it.
pub mod Buffer
pub mod Laws
