-- A record of a made-up pass and a log of such records, and laws of these.
pub mod Body
pub mod Laws
pub mod MadeUp
