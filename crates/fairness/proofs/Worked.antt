-- A worked example, computed from the definitions.
pub mod Served
