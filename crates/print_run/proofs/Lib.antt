-- The laws of the definitions that wrong definitions are refused by, and the listing of paper 01, computed.
pub mod Laws
pub mod Shown
pub mod Listing
